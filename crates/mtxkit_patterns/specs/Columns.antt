-- The columns of a factor, and its elimination tree.
use Rattle.std.specs.Prelude.{◌≡◌, ◌⊎◌, ℕ, zero, suc, ◌+◌, ◌*◌, ◌/◌, ◌≤◌, ◌<◌, ◌==◌, nat_le, List, []}
use Rattle.std.specs.Prelude.{◌∷◌, length, count_by, if◌then◌else◌}
use Rattle.sparse_pattern.specs.Raw.{Raw, IsEntry, lane_of}

-- the number of pairs (column, row) on or below the diagonal
abbrev pub count_lower : List (ℕ × ℕ) → ℕ
count_lower pairs = count_by (λ p. nat_le p.0 p.1) pairs

-- the pattern, read by columns, has no entry above the diagonal
abbrev pub IsLower : Raw → Type 0
IsLower l = (i j : ℕ) → IsEntry l j i → j ≤ i

-- the rows of column `col` below the diagonal: a column of a factor has no row above its diagonal
abbrev pub below_diagonal : ℕ → List ℕ → List ℕ
below_diagonal col [] = []
below_diagonal col (row ∷ rows) = if row == col then rows else row ∷ rows

-- the rows of column j below the diagonal
abbrev pub rows_below : Raw → ℕ → List ℕ
rows_below l j = below_diagonal j (lane_of l j)

-- the number of pairs of n rows, each also paired with itself
abbrev pub pairs_of : ℕ → ℕ
pairs_of n = n * (n + 1) / 2

-- the number of products that the columns below n subtract
abbrev pub products_below : Raw → ℕ → ℕ
products_below l zero = 0
products_below l (suc n) = products_below l n + pairs_of (length (rows_below l n))

-- the path from column j to its root in the elimination tree has d columns; the parent of a column is its first row
-- below the diagonal
pub data IsDepth (l : Raw) : ℕ → ℕ → Type 0 where
  root : {j : ℕ} → rows_below l j ≡ [] → IsDepth l j 1
  child : {j parent d : ℕ} {rows : List ℕ} → rows_below l j ≡ parent ∷ rows → IsDepth l parent d
      → IsDepth l j (d + 1)

-- the height of the elimination tree: no path is longer, and one is as long unless there is no column
pub record IsHeight (l : Raw) (height : ℕ) : Type 0 where
  pub bound : (j : ℕ) → j < l.major_dim → (d : ℕ) × (IsDepth l j d × (d ≤ height))
  pub reached : ((height ≡ 0) × (l.major_dim ≡ 0))
      ⊎ ((j : ℕ) × ((j < l.major_dim) × IsDepth l j height))
