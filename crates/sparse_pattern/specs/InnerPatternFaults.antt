-- The faults of one lane, for the contracts of the private functions that check it.
use Rattle.std.specs.Prelude.{◌≡◌, ℕ, ◌-◌, ◌<◌, ◌≤◌, ◌⊎◌, List, slice_index}
use Rattle.sparse_pattern.specs.declared.pattern.faults.SparsityPatternFormatError.{SparsityPatternFormatError}
use Rattle.sparse_pattern.specs.declared.pattern.faults.SparsityPatternFormatError.TheVariants.{MinorIndexOutOfBounds}
use Rattle.sparse_pattern.specs.declared.pattern.faults.SparsityPatternFormatError.TheVariants.{DuplicateEntry}
use Rattle.sparse_pattern.specs.declared.pattern.faults.SparsityPatternFormatError.TheVariants.{NonmonotonicMinorIndices}

-- the indices from start to end are less than the minor dimension and strictly increasing
pub record IsRisingBelow (minor_dim : ℕ) (indices : List ℕ) (start end : ℕ) : Type 0 where
  pub bounded : (p : ℕ) → start ≤ p → p < end → slice_index indices p < minor_dim
  pub rising : (p : ℕ) → start < p → p < end → slice_index indices (p - 1) < slice_index indices p

-- the index is not greater than the one before it, and e is the error
abbrev pub IsBadOrder : ℕ → ℕ → SparsityPatternFormatError → Type 0
IsBadOrder before index e = ((e ≡ NonmonotonicMinorIndices) × (index < before))
    ⊎ ((e ≡ DuplicateEntry) × (index ≡ before))

-- the index at offset p of a lane that begins at start is out of bounds, or not greater than the one
-- before it, and e is the error
abbrev pub IsBadAt : ℕ → List ℕ → ℕ → ℕ → SparsityPatternFormatError → Type 0
IsBadAt minor_dim indices start p e =
    ((e ≡ MinorIndexOutOfBounds) × (minor_dim ≤ slice_index indices p))
    ⊎ ((slice_index indices p < minor_dim) × (start < p) × IsBadOrder (slice_index indices (p - 1))
    (slice_index indices p) e)

-- e is the error of the first fault among the indices from start to end
pub record IsFirstAmong (minor_dim : ℕ) (indices : List ℕ) (start end : ℕ)
    (e : SparsityPatternFormatError) : Type 0 where
  pub at : ℕ
  pub from : start ≤ at
  pub to : at < end
  pub fine_before : IsRisingBelow minor_dim indices start at
  pub here : IsBadAt minor_dim indices start at e
