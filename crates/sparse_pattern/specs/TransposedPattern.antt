-- The transpose of a pattern.
use Rattle.std.specs.Prelude.{◌≡◌, ℕ, ◌↔◌, List, slice_get, slice_index}
use Rattle.sparse_pattern.specs.Raw.{Raw, IsInLane, IsEntry}

-- t has the dimensions of d exchanged, and the entry (j, i) if and only if d has the entry (i, j)
pub record IsTransposedPattern (d t : Raw) : Type 0 where
  pub major_dim : t.major_dim ≡ d.minor_dim
  pub minor_dim : t.minor_dim ≡ d.major_dim
  pub entries : (i j : ℕ) → IsEntry t j i ↔ IsEntry d i j

-- ws has at the entry (j, i) of t the value that vs has at the entry (i, j) of d
abbrev pub AreTransposedValues : {T : Type 0} → Raw → Raw → List T → List T → Type 0
AreTransposedValues d t vs ws = (i j p q : ℕ) → IsInLane d i p → slice_index d.indices p ≡ j
    → IsInLane t j q → slice_index t.indices q ≡ i → slice_get ws q ≡ slice_get vs p
