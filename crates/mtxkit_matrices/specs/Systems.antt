-- The shapes of systems, and why a system is not solved or a solution is none.
use Rattle.std.specs.Prelude.{◌≡◌, ℕ}
use Rattle.sparse_algebra.specs.Algebra.{CommRing}
use Rattle.sparse_algebra.specs.Plain.{Plain}
use Rattle.sparse_coo_dense.specs.Coo.{Coo}
use Rattle.mtxkit_matrices.specs.Differences.{IsFirstDifference, IsFirstAsymmetry}
use Rattle.mtxkit_matrices.specs.Pivots.{IsSingularPivot}
use Rattle.mtxkit_matrices.specs.Values.{IsSymmetricMatrix}
use Rattle.mtxkit_matrices.specs.declared.orders.EliminationOrder.{EliminationOrder}
use Rattle.mtxkit_matrices.specs.declared.systems.SystemError.{SystemError}
use Rattle.mtxkit_matrices.specs.declared.systems.SystemError.TheVariants.{NotSymmetric, NoFactors}
use Rattle.mtxkit_matrices.specs.declared.solutions.CheckError.{CheckError}
use Rattle.mtxkit_matrices.specs.declared.solutions.CheckError.TheVariants.{NotSolution}

-- A is square, and B has as many rows as A
pub record IsSystem {S T : Type 0} (a : Coo S) (b : Coo T) : Type 0 where
  pub square : a.ncols ≡ a.nrows
  pub rows : b.nrows ≡ a.nrows

-- A X exists and has the shape of B
pub record IsEquation {S T U : Type 0} (a : Coo S) (x : Coo T) (b : Coo U) : Type 0 where
  pub inner : a.ncols ≡ x.nrows
  pub rows : a.nrows ≡ b.nrows
  pub cols : x.ncols ≡ b.ncols

module _ (R : CommRing) where
  -- the matrix differs from its transpose, at first where the error says, or it is symmetric and the
  -- pivot of the error has no inverse; the other errors say nothing about its values
  abbrev pub IsUnsolvable : {T : Type 0} → (T → R.Carrier) → EliminationOrder → Plain R
      → SystemError → Type 0
  IsUnsolvable f order a (NotSymmetric at) = IsFirstAsymmetry R a at.row at.col
  IsUnsolvable f order a (NoFactors pivot) =
      IsSymmetricMatrix R a × IsSingularPivot R f order a pivot
  IsUnsolvable f order a error = Unit {0}

  -- the product differs from b, which has n rows and m columns, at first where the error says
  abbrev pub IsNoSolution : ℕ → ℕ → Plain R → Plain R → CheckError → Type 0
  IsNoSolution n m product b (NotSolution at) =
      IsFirstDifference R n m product b at.row at.col
  IsNoSolution n m product b error = Unit {0}
