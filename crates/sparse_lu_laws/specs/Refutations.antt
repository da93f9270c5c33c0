-- Rows that show that a system of equations has no solution.
use Rattle.std.specs.Prelude.{◌≡◌, ◌≢◌, ℕ, ◌<◌}
use Rattle.sparse_algebra.specs.Algebra.{CommRing}
use Rattle.sparse_algebra.specs.Plain.{Plain, plain_product}
use Rattle.sparse_lu_laws.specs.Kernels.{IsNull}

module _ (R : CommRing) where
  -- the row y has y A = 0, and y B has a value that is not zero
  pub record IsRefutation (a b y : Plain R) : Type 0 where
    pub row : y.rows ≡ 1
    pub cols : y.cols ≡ a.rows
    pub null : IsNull R y a
    pub nonzero : (j : ℕ) × (j < b.cols) × ((plain_product R y b).value 0 j ≢ R.zero)
