-- What a handle of a matrix holds, and the errors and statuses of calls with such handles.
use Rattle.std.specs.Prelude.{◌≡◌, ◌≢◌, ◌⊎◌, ℤ, pos, [], Option, None, Some}
use Rattle.sparse_algebra.specs.Plain.{Plain, plain_of_triplets}
use Rattle.sparse_algebra.specs.WrappingValues.{w64_value}
use Rattle.sparse_algebra.specs.declared.scalar.wrapping.W64.{W64}
use Rattle.sparse_compressed.specs.Compressed.{Compressed}
use Rattle.sparse_compressed.specs.PlainOfLanes.{plain_of_rows}
use Rattle.c_arrays.specs.Arrays.{ring64, OutputArrays}
use Rattle.c_arrays.specs.Refused.{IsOutOfMemoryOr, IsTooSmall}
use Rattle.c_arrays.specs.Statuses.{number_of}
use Rattle.c_arrays.specs.declared.refusal.Refusal.{Refusal}
use Rattle.c_arrays.specs.declared.refusal.Refusal.TheVariants.{EmptyHandle, ShapeMismatch}
use Rattle.c_arrays.specs.declared.refusal.Refusal.TheVariants.{TooSmall}

-- the plain matrix of the matrix that a handle holds; of an empty handle, the one with no rows and no columns
abbrev pub plain_held : Option (Compressed W64) → Plain ring64
plain_held None = plain_of_triplets ring64 w64_value 0 0 []
plain_held (Some m) = plain_of_rows ring64 w64_value m

-- the handle holds a matrix, whose plain matrix is a
abbrev pub Holds : Option (Compressed W64) → Plain ring64 → Type 0
Holds handle a = (m : Compressed W64) × (handle ≡ Some m) × (plain_of_rows ring64 w64_value m ≡ a)

-- the error of an empty handle
abbrev pub IsEmpty : {T : Type 0} → Option T → Refusal → Type 0
IsEmpty handle refusal = (refusal ≡ EmptyHandle) × (handle ≡ None)

-- the error of two handles of which one is empty
abbrev pub IsEitherEmpty : {T : Type 0} → Option T → Option T → Refusal → Type 0
IsEitherEmpty a b refusal = IsEmpty a refusal ⊎ IsEmpty b refusal

-- the matrices have the same shape
abbrev pub HaveOneShape : Plain ring64 → Plain ring64 → Type 0
HaveOneShape a b = (a.rows ≡ b.rows) × (a.cols ≡ b.cols)

-- the product of the matrices is defined
abbrev pub CanMultiply : Plain ring64 → Plain ring64 → Type 0
CanMultiply a b = a.cols ≡ b.rows

-- the matrices of two handles have the same shape, and a third handle holds their sum, their difference or a sum of
-- their multiples, whose plain matrix is c
abbrev pub HoldsSum : Option (Compressed W64) → Option (Compressed W64) → Plain ring64
    → Option (Compressed W64) → Type 0
HoldsSum a b c handle = HaveOneShape (plain_held a) (plain_held b) × Holds handle c

-- the product of the matrices of two handles is defined, and a third handle holds it; its plain matrix is c
abbrev pub HoldsProduct : Option (Compressed W64) → Option (Compressed W64) → Plain ring64
    → Option (Compressed W64) → Type 0
HoldsProduct a b c handle = CanMultiply (plain_held a) (plain_held b) × Holds handle c

-- the error of a sum: a handle is empty, or the matrices have different shapes
abbrev pub IsSumError : Option (Compressed W64) → Option (Compressed W64) → Refusal → Type 0
IsSumError a b refusal = IsEitherEmpty a b refusal ⊎ ((refusal ≡ ShapeMismatch)
    × (((plain_held a).rows ≢ (plain_held b).rows)
    ⊎ ((plain_held a).cols ≢ (plain_held b).cols)))

-- the error of a product: a handle is empty, or the number of columns of the first matrix is not the number of rows of
-- the second
abbrev pub IsProductError : Option (Compressed W64) → Option (Compressed W64) → Refusal → Type 0
IsProductError a b refusal = IsEitherEmpty a b refusal
    ⊎ ((refusal ≡ ShapeMismatch) × ((plain_held a).cols ≢ (plain_held b).rows))

-- the error of a call that writes the arrays of a matrix: the handle is empty, or an array is too small for its matrix
abbrev pub IsUnwritten : Option (Compressed W64) → OutputArrays → Refusal → Type 0
IsUnwritten a room refusal =
    IsEmpty a refusal ⊎ ((refusal ≡ TooSmall) × IsTooSmall (plain_held a) room)

-- the status of a call: 0, and then Done holds, or the number of an error, which is OutOfMemory or satisfies Fault, and
-- then Unchanged holds
abbrev pub Answers : ℤ → (Refusal → Type 0) → Type 0 → Type 0 → Type 0
Answers status Fault Unchanged Done = ((status ≡ pos 0) × Done)
    ⊎ ((refusal : Refusal) × (status ≡ number_of refusal) × IsOutOfMemoryOr Fault refusal × Unchanged)
