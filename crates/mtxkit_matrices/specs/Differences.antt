-- The first difference of two plain matrices, row by row.
use Rattle.std.specs.Prelude.{◌≡◌, ◌<◌, ℕ}
use Rattle.sparse_algebra.specs.Algebra.{CommRing}
use Rattle.sparse_algebra.specs.Plain.{Plain, plain_transpose}
use Rattle.sparse_pattern.specs.Raw.{Precedes}

module _ (R : CommRing) where
  -- among n rows and m columns, a and b have different values at (row, col), and the same ones at the
  -- pairs before, row by row
  pub record IsFirstDifference (n m : ℕ) (a b : Plain R) (row col : ℕ) : Type 0 where
    pub row_inside : row < n
    pub col_inside : col < m
    pub differs : a.value row col ≡ b.value row col → ⊥
    pub before : (i j : ℕ) → i < n → j < m → Precedes (i, j) (row, col)
        → a.value i j ≡ b.value i j

  -- the same of a matrix and its transpose
  abbrev pub IsFirstAsymmetry : Plain R → ℕ → ℕ → Type 0
  IsFirstAsymmetry a row col =
      IsFirstDifference a.rows a.cols a (plain_transpose R a) row col
