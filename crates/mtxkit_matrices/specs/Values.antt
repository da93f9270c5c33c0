-- The values of plain matrices.
use Rattle.std.specs.Prelude.{◌≡◌, ℕ, ◌<◌}
use Rattle.sparse_algebra.specs.Algebra.{CommRing}
use Rattle.sparse_algebra.specs.Plain.{Plain}

module _ (R : CommRing) where
  -- each value is zero
  abbrev pub AllZero : Plain R → Type 0
  AllZero a = (i j : ℕ) → a.value i j ≡ R.zero

  -- the matrix is square and has the same value at (i, j) and at (j, i)
  pub record IsSymmetricMatrix (a : Plain R) : Type 0 where
    pub square : a.cols ≡ a.rows
    pub values : (i j : ℕ) → i < a.rows → j < a.rows → a.value i j ≡ a.value j i
