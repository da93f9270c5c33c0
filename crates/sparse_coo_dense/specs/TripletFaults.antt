-- The faults of triplets given as three lists, and their order.
use Rattle.std.specs.Prelude.{◌≡◌, ◌≢◌, ℕ, ◌≤◌, ◌⊎◌, List, Any, length}
use Rattle.sparse_pattern.specs.FirstFault.{IsFirst}
use Rattle.sparse_pattern.specs.declared.error.SparseFormatErrorKind.{SparseFormatErrorKind}
use Rattle.sparse_pattern.specs.declared.error.SparseFormatErrorKind.TheVariants.{InvalidStructure}
use Rattle.sparse_pattern.specs.declared.error.SparseFormatErrorKind.TheVariants.{IndexOutOfBounds}

-- the rules of three lists: as many columns as rows, as many values as columns, row indices in bounds,
-- and column indices in bounds
pub data TripletRule : Type 0 where
  ColCount : TripletRule
  ValueCount : TripletRule
  RowBounds : TripletRule
  ColBounds : TripletRule

-- the rows, the columns and the number of values violate the rule
abbrev pub HasTripletFault : ℕ → ℕ → List ℕ → List ℕ → ℕ → TripletRule → Type 0
HasTripletFault nrows ncols rows cols count ColCount = length rows ≢ length cols
HasTripletFault nrows ncols rows cols count ValueCount = length cols ≢ count
HasTripletFault nrows ncols rows cols count RowBounds = Any (λ i. nrows ≤ i) rows
HasTripletFault nrows ncols rows cols count ColBounds = Any (λ j. ncols ≤ j) cols

-- the kind of the error for a violated rule
abbrev pub triplet_kind : TripletRule → SparseFormatErrorKind
triplet_kind ColCount = InvalidStructure
triplet_kind ValueCount = InvalidStructure
triplet_kind RowBounds = IndexOutOfBounds
triplet_kind ColBounds = IndexOutOfBounds

abbrev pub triplet_rank : TripletRule → ℕ × ℕ × ℕ
triplet_rank ColCount = (0, 0, 0)
triplet_rank ValueCount = (1, 0, 0)
triplet_rank RowBounds = (2, 0, 0)
triplet_rank ColBounds = (3, 0, 0)

-- the error of the first fault has this kind
pub record IsFirstTripletFault (nrows ncols : ℕ) (rows cols : List ℕ) (count : ℕ)
    (kind : SparseFormatErrorKind) : Type 0 where
  pub rule : TripletRule
  pub first : IsFirst triplet_rank (HasTripletFault nrows ncols rows cols count) rule
  pub is : kind ≡ triplet_kind rule

-- some triplet has a row or a column out of bounds
abbrev pub IsSomeOutside : {T : Type 0} → ℕ → ℕ → List (ℕ × ℕ × T) → Type 0
IsSomeOutside nrows ncols triplets = Any (λ t. (nrows ≤ t.0) ⊎ (ncols ≤ t.1)) triplets
