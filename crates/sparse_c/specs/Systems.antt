-- Calls that solve an equation with a square CSC matrix: a triangular or a symmetric system.
use Rattle.std.specs.Prelude.{◌*◌, ℕ, ℤ, List}
use Rattle.sparse_algebra.specs.Algebra.{CommRing}
use Rattle.sparse_algebra.specs.Plain.{Plain}
use Rattle.sparse_compressed.specs.Compressed.{Compressed}
use Rattle.sparse_c.specs.Dense.{WritesNumbers}
use Rattle.sparse_c.specs.Scalars.{Scalars}
use Rattle.sparse_c.specs.Solved.{HoldsMatrix, IsFaultOfLower, IsMatrixTooLong, SolvesLower}
use Rattle.sparse_c.specs.Symmetric.{IsFaultOfSymmetric, SolvesSymmetric}
use Rattle.sparse_c.specs.declared.arguments.Equation.{Equation}
use Rattle.sparse_c.specs.declared.arguments.Equation.TheVariants.{Lower, Symmetric}
use Rattle.sparse_c.specs.declared.arguments.Numbers.{Numbers}
use Rattle.sparse_c.specs.declared.arguments.System.{System}
use Rattle.c_arrays.specs.Arrays.{plain_by_values}
use Rattle.c_arrays.specs.Refused.{IsSystemSound}
use Rattle.c_arrays.specs.declared.refusal.Refusal.{Refusal}

module _ (R : CommRing) {T : Type 0} (f : T → R.Carrier) where
  -- x solves the equation with the CSC matrix a and the right-hand side b, which has n rows and m columns
  abbrev pub Solves : Equation → Compressed ℤ → Plain R → Plain R → ℕ → ℕ → Type 0
  Solves (Lower transposed) a x b n m = SolvesLower R f transposed a m x b
  Solves Symmetric a x b n m = SolvesSymmetric R f a x b n m

  -- the error of the equation: a fault of the operands, or Singular
  abbrev pub IsFaultOfEquation : Equation → Compressed ℤ → ℕ → ℕ → List ℤ → Refusal → Type 0
  IsFaultOfEquation (Lower transposed) = IsFaultOfLower R f
  IsFaultOfEquation Symmetric = IsFaultOfSymmetric R f

  -- x solves the system
  abbrev pub IsSolved : System → Plain R → Type 0
  IsSolved s x =
      Solves s.equation s.matrix x (plain_by_values R s.size s.cols s.b.now) s.size s.cols

-- the contract of a call that solves a system: its ring, the array before and after the call, and its status
abbrev pub SolvesSystem : Scalars → System → Numbers → Numbers → ℤ → Type 0
SolvesSystem S s = WritesNumbers S (IsSystemSound s.matrix s.size s.cols s.b.now)
    (IsFaultOfEquation S.ring S.value s.equation s.matrix s.size s.cols s.b.now)
    (HoldsMatrix S.ring (IsSolved S.ring S.value s) s.size s.cols)
    (IsMatrixTooLong S.ring (IsSolved S.ring S.value s) s.size s.cols) (s.size * s.cols)
