-- The first fault of arrays whose lanes must be sorted.
use Rattle.std.specs.Prelude.{◌≡◌, ◌≢◌, length}
use Rattle.sparse_pattern.specs.Raw.{IsValid}
use Rattle.sparse_pattern.specs.PatternFaults.{IsFirstFault, kind_of}
use Rattle.sparse_pattern.specs.declared.error.SparseFormatErrorKind.{SparseFormatErrorKind}
use Rattle.sparse_pattern.specs.declared.error.SparseFormatErrorKind.TheVariants.{InvalidStructure}
use Rattle.sparse_compressed.specs.Compressed.{Compressed}
use Rattle.sparse_compressed.specs.declared.sorted.SortedFault.{SortedFault}
use Rattle.sparse_compressed.specs.declared.sorted.SortedFault.TheVariants.{Pattern, ValueCount}

-- the kind of the error for this fault
abbrev pub sorted_kind : SortedFault → SparseFormatErrorKind
sorted_kind (Pattern e) = kind_of e
sorted_kind ValueCount = InvalidStructure

module _ {T : Type 0} where
  -- the first fault of the arrays: that of the pattern, and otherwise the number of values
  abbrev pub IsFirstSortedFault : Compressed T → SortedFault → Type 0
  IsFirstSortedFault m (Pattern e) = IsFirstFault m.pattern e
  IsFirstSortedFault m ValueCount = IsValid m.pattern × (length m.values ≢ length m.pattern.indices)

  -- the error has the kind of the first fault of the arrays
  pub record IsSortedRefusal (m : Compressed T) (kind : SparseFormatErrorKind) : Type 0 where
    pub fault : SortedFault
    pub first : IsFirstSortedFault m fault
    pub is : kind ≡ sorted_kind fault
