-- Calls that solve a system with a symmetric matrix A, whose entries on and above the diagonal are those of a CSC
-- matrix a.
use Rattle.std.specs.Prelude.{◌≡◌, ◌⊎◌, ℕ, ℤ, List}
use Rattle.sparse_algebra.specs.Algebra.{CommRing}
use Rattle.sparse_algebra.specs.Plain.{Plain, plain_product}
use Rattle.sparse_compressed.specs.Compressed.{Compressed}
use Rattle.sparse_factor.specs.Factorisations.{plain_symmetric, IsFactorisation}
use Rattle.sparse_factor.specs.LeadingBlocks.{HasFactorisation}
use Rattle.sparse_dense_ops.specs.Solutions.{HasSameValues}
use Rattle.sparse_c.specs.Solved.{HoldsMatrix, IsMatrixTooLong}
use Rattle.c_arrays.specs.Arrays.{plain_by_cols}
use Rattle.c_arrays.specs.Refused.{IsFaultOfSystem, IsSystemSound}
use Rattle.c_arrays.specs.declared.refusal.Refusal.{Refusal}
use Rattle.c_arrays.specs.declared.refusal.Refusal.TheVariants.{Singular}

module _ (R : CommRing) where
  -- A: the symmetric matrix whose entries on and above the diagonal are those of the CSC matrix
  abbrev pub symmetric_by_cols : Compressed ℤ → Plain R
  symmetric_by_cols a = plain_symmetric R (plain_by_cols R a)

module _ (R : CommRing) {T : Type 0} (f : T → R.Carrier) where
  -- A has a factorisation L D Lᵀ, and A x and b have the same values in the first n rows and m columns
  pub record SolvesSymmetric (a : Compressed ℤ) (x b : Plain R) (n m : ℕ) : Type 0 where
    pub factored : HasFactorisation R f (symmetric_by_cols R a)
    pub solves : HasSameValues R n m (plain_product R (symmetric_by_cols R a) x) b

  -- the array starts with the values of such an x with n rows and m columns
  abbrev pub HoldsSymmetricSolution : Compressed ℤ → Plain R → ℕ → ℕ → List ℤ → Type 0
  HoldsSymmetricSolution a b n m = HoldsMatrix R (λ x. SolvesSymmetric a x b n m) n m

  -- there is such an x, and the array is too short for n rows and m columns
  abbrev pub IsSymmetricSolutionTooLong : Compressed ℤ → Plain R → ℕ → ℕ → List ℤ → Type 0
  IsSymmetricSolutionTooLong a b n m = IsMatrixTooLong R (λ x. SolvesSymmetric a x b n m) n m

  -- A has no factorisation L D Lᵀ
  abbrev pub HasNoFactors : Compressed ℤ → Type 0
  HasNoFactors a = (l : Plain R) (d : ℕ → R.Carrier)
      → IsFactorisation R f (symmetric_by_cols R a) l d → ⊥

  -- the error of the first fault of the CSC matrix or of the right-hand side, or Singular if they have none and A has
  -- no factorisation
  abbrev pub IsFaultOfSymmetric : Compressed ℤ → ℕ → ℕ → List ℤ → Refusal → Type 0
  IsFaultOfSymmetric a size cols b refusal =
      IsFaultOfSystem a size cols b refusal
      ⊎ (IsSystemSound a size cols b × (refusal ≡ Singular) × HasNoFactors a)
