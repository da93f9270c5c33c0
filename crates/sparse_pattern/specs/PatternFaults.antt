-- The faults of a pattern's raw data, and their order.
use Rattle.std.specs.Prelude.{◌≡◌, ◌≢◌, ℕ, ◌+◌, ◌-◌, ◌<◌, ◌≤◌, ◌⊎◌, length, slice_index}
use Rattle.sparse_pattern.specs.Raw.{Raw, start_of, end_of, IsInLane}
use Rattle.sparse_pattern.specs.FirstFault.{IsFirst}
use Rattle.sparse_pattern.specs.declared.pattern.faults.SparsityPatternFormatError.{SparsityPatternFormatError}
use Rattle.sparse_pattern.specs.declared.pattern.faults.SparsityPatternFormatError.TheVariants.{InvalidOffsetArrayLength}
use Rattle.sparse_pattern.specs.declared.pattern.faults.SparsityPatternFormatError.TheVariants.{InvalidOffsetFirstLast}
use Rattle.sparse_pattern.specs.declared.pattern.faults.SparsityPatternFormatError.TheVariants.{NonmonotonicOffsets}
use Rattle.sparse_pattern.specs.declared.pattern.faults.SparsityPatternFormatError.TheVariants.{MinorIndexOutOfBounds}
use Rattle.sparse_pattern.specs.declared.pattern.faults.SparsityPatternFormatError.TheVariants.{DuplicateEntry}
use Rattle.sparse_pattern.specs.declared.pattern.faults.SparsityPatternFormatError.TheVariants.{NonmonotonicMinorIndices}
use Rattle.sparse_pattern.specs.declared.error.SparseFormatErrorKind as kinds
use Rattle.sparse_pattern.specs.declared.error.SparseFormatErrorKind.TheVariants as variants

-- the rules of a pattern: for the number of offsets, for the first and the last offset, for the end of
-- lane i, and for the index at offset p of lane i, which must be in bounds, not less than the index
-- before it, and not equal to it
pub data Rule : Type 0 where
  OffsetCount : Rule
  FirstLast : Rule
  LaneEnd : ℕ → Rule
  Bound : ℕ → ℕ → Rule
  Fall : ℕ → ℕ → Rule
  Repeat : ℕ → ℕ → Rule

-- the data violates the rule
abbrev pub HasFault : Raw → Rule → Type 0
HasFault d OffsetCount = length d.offsets ≢ d.major_dim + 1
HasFault d FirstLast = (slice_index d.offsets 0 ≢ 0)
    ⊎ (slice_index d.offsets d.major_dim ≢ length d.indices)
HasFault d (LaneEnd i) = (i < d.major_dim)
    × ((end_of d i < start_of d i) ⊎ (length d.indices < end_of d i))
HasFault d (Bound i p) = IsInLane d i p × (d.minor_dim ≤ slice_index d.indices p)
HasFault d (Fall i p) = IsInLane d i p × (start_of d i < p)
    × (slice_index d.indices p < slice_index d.indices (p - 1))
HasFault d (Repeat i p) = IsInLane d i p × (start_of d i < p)
    × (slice_index d.indices p ≡ slice_index d.indices (p - 1))

-- the error for a violated rule
abbrev pub error_of : Rule → SparsityPatternFormatError
error_of OffsetCount = InvalidOffsetArrayLength
error_of FirstLast = InvalidOffsetFirstLast
error_of (LaneEnd i) = NonmonotonicOffsets
error_of (Bound i p) = MinorIndexOutOfBounds
error_of (Fall i p) = NonmonotonicMinorIndices
error_of (Repeat i p) = DuplicateEntry

-- the kind of the error for a matrix whose pattern has this error
abbrev pub kind_of : SparsityPatternFormatError → kinds.SparseFormatErrorKind
kind_of InvalidOffsetArrayLength = variants.InvalidStructure
kind_of InvalidOffsetFirstLast = variants.InvalidStructure
kind_of NonmonotonicOffsets = variants.InvalidStructure
kind_of MinorIndexOutOfBounds = variants.IndexOutOfBounds
kind_of DuplicateEntry = variants.DuplicateEntry
kind_of NonmonotonicMinorIndices = variants.InvalidStructure

-- the order of the rules: lane by lane, the end of a lane before its indices, and for each index its
-- bound first
abbrev pub rank_of : Rule → ℕ × ℕ × ℕ
rank_of OffsetCount = (0, 0, 0)
rank_of FirstLast = (1, 0, 0)
rank_of (LaneEnd i) = (i + 2, 0, 0)
rank_of (Bound i p) = (i + 2, p + 1, 0)
rank_of (Fall i p) = (i + 2, p + 1, 1)
rank_of (Repeat i p) = (i + 2, p + 1, 2)

-- e is the error of the first fault of the data
pub record IsFirstFault (d : Raw) (e : SparsityPatternFormatError) : Type 0 where
  pub rule : Rule
  pub first : IsFirst rank_of (HasFault d) rule
  pub is : e ≡ error_of rule
