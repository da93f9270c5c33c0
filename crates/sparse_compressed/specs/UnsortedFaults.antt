-- The faults of arrays whose lanes need not be sorted, and their order.
use Rattle.std.specs.Prelude.{◌≡◌, ◌≢◌, ℕ, ◌+◌, ◌<◌, ◌≤◌, ◌⊎◌, List, Any, length, slice_index}
use Rattle.std.specs.List.Sorted.{IsPermutation}
use Rattle.sparse_pattern.specs.Raw.{start_of, end_of, lane_of}
use Rattle.sparse_pattern.specs.FirstFault.{IsFirst}
use Rattle.sparse_pattern.specs.declared.error.SparseFormatErrorKind.{SparseFormatErrorKind}
use Rattle.sparse_pattern.specs.declared.error.SparseFormatErrorKind.TheVariants.{IndexOutOfBounds}
use Rattle.sparse_pattern.specs.declared.error.SparseFormatErrorKind.TheVariants.{DuplicateEntry}
use Rattle.sparse_pattern.specs.declared.error.SparseFormatErrorKind.TheVariants.{InvalidStructure}
use Rattle.sparse_compressed.specs.Compressed.{Compressed, IsSound, lane_triplets}

-- the rules, each named by its violation, in the order in which they are tested: the number of
-- values, no offset, the number of offsets, the first or the last offset; then for each lane its
-- end before its start, its end past the indices, an index out of bounds, an index that occurs
-- twice
pub data UnsortedRule : Type 0 where
  ValueCount : UnsortedRule
  NoOffsets : UnsortedRule
  OffsetCount : UnsortedRule
  FirstLast : UnsortedRule
  LaneFall : ℕ → UnsortedRule
  LaneEnd : ℕ → UnsortedRule
  LaneBounds : ℕ → UnsortedRule
  LaneRepeat : ℕ → UnsortedRule

-- a number occurs twice in the list
pub record HasRepeat (xs : List ℕ) : Type 0 where
  pub one : ℕ
  pub other : ℕ
  pub increasing : one < other
  pub within : other < length xs
  pub same : slice_index xs one ≡ slice_index xs other

-- the order of the rules, as above: lane by lane, and within a lane by kind
abbrev pub unsorted_rank : UnsortedRule → ℕ × ℕ × ℕ
unsorted_rank ValueCount = (0, 0, 0)
unsorted_rank NoOffsets = (1, 0, 0)
unsorted_rank OffsetCount = (2, 0, 0)
unsorted_rank FirstLast = (3, 0, 0)
unsorted_rank (LaneFall i) = (i + 4, 0, 0)
unsorted_rank (LaneEnd i) = (i + 4, 1, 0)
unsorted_rank (LaneBounds i) = (i + 4, 2, 0)
unsorted_rank (LaneRepeat i) = (i + 4, 3, 0)

-- the kind of the error that reports a violation of the rule
abbrev pub unsorted_kind : UnsortedRule → SparseFormatErrorKind
unsorted_kind ValueCount = InvalidStructure
unsorted_kind NoOffsets = InvalidStructure
unsorted_kind OffsetCount = InvalidStructure
unsorted_kind FirstLast = InvalidStructure
unsorted_kind (LaneFall i) = InvalidStructure
unsorted_kind (LaneEnd i) = IndexOutOfBounds
unsorted_kind (LaneBounds i) = IndexOutOfBounds
unsorted_kind (LaneRepeat i) = DuplicateEntry

module _ {T : Type 0} where
  -- the arrays violate this rule
  abbrev pub HasUnsortedFault : Compressed T → UnsortedRule → Type 0
  HasUnsortedFault m ValueCount = length m.values ≢ length m.pattern.indices
  HasUnsortedFault m NoOffsets = length m.pattern.offsets ≡ 0
  HasUnsortedFault m OffsetCount = length m.pattern.offsets ≢ m.pattern.major_dim + 1
  HasUnsortedFault m FirstLast = (slice_index m.pattern.offsets 0 ≢ 0)
      ⊎ (slice_index m.pattern.offsets m.pattern.major_dim ≢ length m.pattern.indices)
  HasUnsortedFault m (LaneFall i) = (i < m.pattern.major_dim)
      × (end_of m.pattern i < start_of m.pattern i)
  HasUnsortedFault m (LaneEnd i) = (i < m.pattern.major_dim)
      × (length m.pattern.indices < end_of m.pattern i)
  HasUnsortedFault m (LaneBounds i) = (i < m.pattern.major_dim)
      × Any (λ j. m.pattern.minor_dim ≤ j) (lane_of m.pattern i)
  HasUnsortedFault m (LaneRepeat i) = (i < m.pattern.major_dim) × HasRepeat (lane_of m.pattern i)

  abbrev pub HasNoFault : Compressed T → Type 0
  HasNoFault m = (s : UnsortedRule) → HasUnsortedFault m s → ⊥

  -- the number of values, the number of offsets, and the first and the last offset have no fault
  pub record HasValidCounts (m : Compressed T) : Type 0 where
    pub values : length m.values ≡ length m.pattern.indices
    pub offsets : length m.pattern.offsets ≡ m.pattern.major_dim + 1
    pub first : slice_index m.pattern.offsets 0 ≡ 0
    pub last : slice_index m.pattern.offsets m.pattern.major_dim ≡ length m.pattern.indices

  -- the counts and the first and the last offset have no fault, but the arrays are not sound: some
  -- lane is unsorted or has a fault
  abbrev pub NeedsSorting : Compressed T → Type 0
  NeedsSorting m = HasValidCounts m × ¬ IsSound m

  -- the error has the kind of the first fault of the arrays
  pub record IsUnsortedRefusal (m : Compressed T) (kind : SparseFormatErrorKind) : Type 0 where
    pub rule : UnsortedRule
    pub first : IsFirst unsorted_rank (HasUnsortedFault m) rule
    pub is : kind ≡ unsorted_kind rule

  -- a sound matrix with the shape and the offsets of the given arrays and a permutation of their
  -- triplets, so each lane is sorted
  pub record IsSortedForm (given m : Compressed T) : Type 0 where
    pub sound : IsSound m
    pub major_dim : m.pattern.major_dim ≡ given.pattern.major_dim
    pub minor_dim : m.pattern.minor_dim ≡ given.pattern.minor_dim
    pub offsets : m.pattern.offsets ≡ given.pattern.offsets
    pub triplets : IsPermutation (lane_triplets given) (lane_triplets m)
