-- The first value of a plain matrix that is not zero, row by row.
use Rattle.std.specs.Prelude.{◌≡◌, ◌<◌, ℕ, List, ◌++◌, All}
use Rattle.sparse_algebra.specs.Algebra.{CommRing}
use Rattle.sparse_algebra.specs.Plain.{Plain}
use Rattle.sparse_pattern.specs.Raw.{Precedes}

module _ (R : CommRing) where
  -- the value at (row, col) is not zero, and those before it, row by row, are
  pub record IsFirstNonzero (a : Plain R) (row col : ℕ) : Type 0 where
    pub row_inside : row < a.rows
    pub col_inside : col < a.cols
    pub nonzero : a.value row col ≡ R.zero → ⊥
    pub before : (i j : ℕ) → Precedes (i, j) (row, col) → a.value i j ≡ R.zero

  -- the values of the triplets before the rest are zero
  pub record IsZeroBefore {T : Type 0} (f : T → R.Carrier) (all rest : List (ℕ × ℕ × T)) : Type 0
    where
      pub before : List (ℕ × ℕ × T)
      pub split : all ≡ before ++ rest
      pub zeros : All (λ t. f t.2 ≡ R.zero) before
