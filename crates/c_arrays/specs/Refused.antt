-- When a call fails, and with which status.
use Rattle.std.specs.Prelude.{◌≡◌, ◌≢◌, ◌⊎◌, ℕ, ℤ, ◌+◌, ◌*◌, ◌<◌, List, length}
use Rattle.sparse_algebra.specs.Algebra.{CommRing}
use Rattle.sparse_algebra.specs.Plain.{Plain}
use Rattle.sparse_compressed.specs.Compressed.{Compressed, IsSound}
use Rattle.sparse_compressed.specs.SortedFaults.{IsSortedRefusal}
use Rattle.sparse_coo_dense.specs.TripletFaults.{IsFirstTripletFault}
use Rattle.sparse_pattern.specs.Raw.{Raw}
use Rattle.sparse_pattern.specs.PatternFaults.{IsFirstFault, kind_of}
use Rattle.sparse_pattern.specs.declared.error.SparseFormatErrorKind.{SparseFormatErrorKind}
use Rattle.sparse_pattern.specs.declared.pattern.faults.SparsityPatternFormatError.{SparsityPatternFormatError}
use Rattle.c_arrays.specs.Arrays.{PatternOutputArrays, OutputArrays, place_count}
use Rattle.c_arrays.specs.Statuses.{number_of, refusal_of}
use Rattle.c_arrays.specs.declared.refusal.Refusal.{Refusal}
use Rattle.c_arrays.specs.declared.refusal.Refusal.TheVariants.{InvalidStructure}
use Rattle.c_arrays.specs.declared.refusal.Refusal.TheVariants.{OutOfMemory, TooSmall}

-- an array is too small for the matrix by rows
abbrev pub IsTooSmall : {R : CommRing} → Plain R → OutputArrays → Type 0
IsTooSmall a r = (length r.offsets < a.rows + 1)
    ⊎ ((length r.indices < place_count a) ⊎ (length r.values < place_count a))

-- an array is too small for the pattern
abbrev pub IsPatternTooSmall : Raw → PatternOutputArrays → Type 0
IsPatternTooSmall d r =
    (length r.offsets < length d.offsets) ⊎ (length r.indices < length d.indices)

-- the first fault of the arrays of a compressed matrix gives this error
pub record IsFaultOf (m : Compressed ℤ) (refusal : Refusal) : Type 0 where
  pub kind : SparseFormatErrorKind
  pub first : IsSortedRefusal m kind
  pub is : refusal ≡ refusal_of kind

-- the first fault of the arrays of a pattern gives this error
pub record IsFaultOfPattern (d : Raw) (refusal : Refusal) : Type 0 where
  pub error : SparsityPatternFormatError
  pub first : IsFirstFault d error
  pub is : refusal ≡ refusal_of (kind_of error)

-- the first fault of the arrays of a coordinate list gives this error
pub record IsFaultOfList (rows cols : ℕ) (row_indices col_indices : List ℕ) (values : List ℤ)
    (refusal : Refusal) : Type 0 where
  pub kind : SparseFormatErrorKind
  pub first : IsFirstTripletFault rows cols row_indices col_indices (length values) kind
  pub is : refusal ≡ refusal_of kind

-- the number of values of a dense matrix is not that of its shape, and this is the error
abbrev pub HasWrongLength : ℕ → ℕ → List ℤ → Refusal → Type 0
HasWrongLength rows cols values refusal =
    (refusal ≡ InvalidStructure) × (length values ≢ rows * cols)

-- an allocation failed, or the data has a fault
abbrev pub IsOutOfMemoryOr : (Refusal → Type 0) → Refusal → Type 0
IsOutOfMemoryOr Fault refusal = (refusal ≡ OutOfMemory) ⊎ Fault refusal

-- the first matrix has a fault, or else the second one has
abbrev pub IsFaultOfPair : Compressed ℤ → Compressed ℤ → Refusal → Type 0
IsFaultOfPair m n refusal = IsFaultOf m refusal ⊎ (IsSound m × IsFaultOf n refusal)

-- the matrix has a fault, or else the values of the dense matrix have
abbrev pub IsFaultOfSystem : Compressed ℤ → ℕ → ℕ → List ℤ → Refusal → Type 0
IsFaultOfSystem m rows cols values refusal =
    IsFaultOf m refusal ⊎ (IsSound m × HasWrongLength rows cols values refusal)

-- neither the matrix nor the values of the dense matrix have a fault
abbrev pub IsSystemSound : Compressed ℤ → ℕ → ℕ → List ℤ → Type 0
IsSystemSound m rows cols values = IsSound m × (length values ≡ rows * cols)

-- the status of a call that fails: an allocation failed, the operands have a fault, or an array is too small for the
-- result
abbrev pub IsRefusedFor : (Refusal → Type 0) → Type 0 → ℤ → Type 0
IsRefusedFor Fault Small status = (refusal : Refusal) × (status ≡ number_of refusal)
    × (IsOutOfMemoryOr Fault refusal ⊎ ((refusal ≡ TooSmall) × Small))

-- the same for a call that writes a matrix by rows
abbrev pub IsRefused : {R : CommRing} → (Refusal → Type 0) → Plain R → OutputArrays → ℤ → Type 0
IsRefused Fault a r status = IsRefusedFor Fault (IsTooSmall a r) status
