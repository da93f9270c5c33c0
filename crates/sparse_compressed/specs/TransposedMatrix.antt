-- The transpose of a compressed matrix.
use Rattle.std.specs.Prelude.{◌≡◌, ℕ, slice_get}
use Rattle.sparse_pattern.specs.TransposedPattern.{IsTransposedPattern}
use Rattle.sparse_compressed.specs.Compressed.{Compressed, IsOffset}

-- n has the transposed pattern of m, and at (j, i) the value that m has at (i, j)
pub record IsTranspose {T : Type 0} (m n : Compressed T) : Type 0 where
  pub pattern : IsTransposedPattern m.pattern n.pattern
  pub values : (i j p q : ℕ) → IsOffset m.pattern i j p → IsOffset n.pattern j i q
      → slice_get n.values q ≡ slice_get m.values p
