-- Patterns and dense matrices that are permuted.
use Rattle.std.specs.Prelude.{ℕ, ◌<◌, ◌↔◌, ◌≡◌, List, slice_index}
use Rattle.sparse_pattern.specs.Raw.{Raw, IsEntry, IsValid}
use Rattle.sparse_coo_dense.specs.Dense.{Dense, HasValues, value_at}

-- d is the pattern P a Pᵀ: of the same shape, with an entry at (i, j) if and only if a has one at
-- (p i, p j)
pub record IsPermutedPattern (p : List ℕ) (a d : Raw) : Type 0 where
  pub valid : IsValid d
  pub major_dim : d.major_dim ≡ a.major_dim
  pub minor_dim : d.minor_dim ≡ a.minor_dim
  pub entries : (i j : ℕ) → IsEntry d i j
      ↔ ((i < a.major_dim) × (j < a.minor_dim) × IsEntry a (slice_index p i) (slice_index p j))

-- d is the dense matrix P a: of the same shape, and its row i is the row p i of a
abbrev pub HasPermutedRows : {T : Type 0} → List ℕ → Dense T → Dense T → Type 0
HasPermutedRows p a d = HasValues a.nrows a.ncols (λ i j z. value_at a (slice_index p i) j z) d
