-- What each variant of the private enum `UnsortedFault` says of the arrays.
use Rattle.std.specs.Prelude.{◌≡◌, ℕ, ◌<◌, ◌≤◌, List, All, Any}
use Rattle.sparse_pattern.specs.FirstFault.{IsFirst}
use Rattle.sparse_pattern.specs.declared.error.SparseFormatErrorKind.{SparseFormatErrorKind}
use Rattle.sparse_pattern.specs.declared.error.SparseFormatErrorKind.TheVariants as kind
use Rattle.sparse_compressed.specs.Compressed.{Compressed}
use Rattle.sparse_compressed.specs.InnerLaneSorting.{HasFall}
use Rattle.sparse_compressed.specs.UnsortedFaults.{UnsortedRule, HasRepeat}
use Rattle.sparse_compressed.specs.UnsortedFaults.{HasUnsortedFault, NeedsSorting}
use Rattle.sparse_compressed.specs.UnsortedFaults.{unsorted_kind, unsorted_rank}
use Rattle.sparse_compressed.specs.UnsortedFaults as at
use Rattle.sparse_compressed.specs.declared.unsorted.fault.UnsortedFault.{UnsortedFault}
use Rattle.sparse_compressed.specs.declared.unsorted.fault.UnsortedFault.TheVariants.{ValueCount}
use Rattle.sparse_compressed.specs.declared.unsorted.fault.UnsortedFault.TheVariants.{NoOffsets}
use Rattle.sparse_compressed.specs.declared.unsorted.fault.UnsortedFault.TheVariants.{OffsetCount}
use Rattle.sparse_compressed.specs.declared.unsorted.fault.UnsortedFault.TheVariants.{FirstLast}
use Rattle.sparse_compressed.specs.declared.unsorted.fault.UnsortedFault.TheVariants.{LaneFall}
use Rattle.sparse_compressed.specs.declared.unsorted.fault.UnsortedFault.TheVariants.{LaneEnd}
use Rattle.sparse_compressed.specs.declared.unsorted.fault.UnsortedFault.TheVariants.{LaneBounds}
use Rattle.sparse_compressed.specs.declared.unsorted.fault.UnsortedFault.TheVariants.{LaneRepeat}
use Rattle.sparse_compressed.specs.declared.unsorted.fault.UnsortedFault.TheVariants.{Memory}

-- the kind of the error that reports the fault
abbrev pub fault_kind : UnsortedFault → SparseFormatErrorKind
fault_kind ValueCount = unsorted_kind at.ValueCount
fault_kind NoOffsets = unsorted_kind at.NoOffsets
fault_kind OffsetCount = unsorted_kind at.OffsetCount
fault_kind FirstLast = unsorted_kind at.FirstLast
fault_kind (LaneFall i) = unsorted_kind (at.LaneFall i)
fault_kind (LaneEnd i) = unsorted_kind (at.LaneEnd i)
fault_kind (LaneBounds i) = unsorted_kind (at.LaneBounds i)
fault_kind (LaneRepeat i) = unsorted_kind (at.LaneRepeat i)
fault_kind Memory = kind.OutOfMemory

-- the fault of lane i with these indices: one out of bounds, or all within bounds and one twice;
-- allocation can fail only if the indices are not strictly increasing
abbrev pub IsLaneFault : ℕ → ℕ → List ℕ → UnsortedFault → Type 0
IsLaneFault i bound xs (LaneBounds k) = (k ≡ i) × Any (λ j. bound ≤ j) xs
IsLaneFault i bound xs (LaneRepeat k) = (k ≡ i) × All (λ j. j < bound) xs × HasRepeat xs
IsLaneFault i bound xs Memory = HasFall xs
IsLaneFault i bound xs ValueCount = ⊥
IsLaneFault i bound xs NoOffsets = ⊥
IsLaneFault i bound xs OffsetCount = ⊥
IsLaneFault i bound xs FirstLast = ⊥
IsLaneFault i bound xs (LaneFall k) = ⊥
IsLaneFault i bound xs (LaneEnd k) = ⊥

module _ {T : Type 0} (m : Compressed T) where
  -- this is the first rule that the arrays violate
  abbrev pub IsFirstAt : UnsortedRule → Type 0
  IsFirstAt rule = IsFirst unsorted_rank (HasUnsortedFault m) rule

  -- the fault is the first of the arrays, or an allocation failed and some lane must be sorted
  abbrev pub IsReported : UnsortedFault → Type 0
  IsReported ValueCount = IsFirstAt at.ValueCount
  IsReported NoOffsets = IsFirstAt at.NoOffsets
  IsReported OffsetCount = IsFirstAt at.OffsetCount
  IsReported FirstLast = IsFirstAt at.FirstLast
  IsReported (LaneFall i) = IsFirstAt (at.LaneFall i)
  IsReported (LaneEnd i) = IsFirstAt (at.LaneEnd i)
  IsReported (LaneBounds i) = IsFirstAt (at.LaneBounds i)
  IsReported (LaneRepeat i) = IsFirstAt (at.LaneRepeat i)
  IsReported Memory = NeedsSorting m
