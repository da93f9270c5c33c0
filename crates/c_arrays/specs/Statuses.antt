-- The statuses that C sees.
use Rattle.std.specs.Prelude.{◌≡◌, ◌⊎◌, ℤ, pos}
use Rattle.sparse_algebra.specs.declared.error.OperationErrorKind.{OperationErrorKind}
use Rattle.sparse_algebra.specs.declared.error.OperationErrorKind.TheVariants as operations
use Rattle.sparse_pattern.specs.declared.error.SparseFormatErrorKind.{SparseFormatErrorKind}
use Rattle.sparse_pattern.specs.declared.error.SparseFormatErrorKind.TheVariants as kinds
use Rattle.sparse_parser.specs.Errors.{kind_of}
use Rattle.sparse_parser.specs.declared.error.MatrixMarketError.{MatrixMarketError}
use Rattle.sparse_parser.specs.declared.error.MatrixMarketErrorKind.{MatrixMarketErrorKind}
use Rattle.sparse_parser.specs.declared.error.MatrixMarketErrorKind.TheVariants as texts
use Rattle.c_arrays.specs.declared.refusal.Refusal.{Refusal}
use Rattle.c_arrays.specs.declared.refusal.Refusal.TheVariants as refusals

-- the status of an error; the status of a call without an error is 0
abbrev pub number_of : Refusal → ℤ
number_of refusals.OutOfMemory = pos 1
number_of refusals.InvalidStructure = pos 2
number_of refusals.IndexOutOfBounds = pos 3
number_of refusals.DuplicateEntry = pos 4
number_of refusals.TooSmall = pos 5
number_of refusals.Singular = pos 6
number_of refusals.UnknownChoice = pos 7
number_of refusals.InvalidText = pos 8
number_of refusals.InvalidHeader = pos 9
number_of refusals.EntryMismatch = pos 10
number_of refusals.TypeMismatch = pos 11
number_of refusals.ZeroIndex = pos 12
number_of refusals.DiagonalEntry = pos 13
number_of refusals.NotLowerTriangle = pos 14
number_of refusals.NonSquare = pos 15
number_of refusals.Unreadable = pos 16
number_of refusals.EmptyHandle = pos 17
number_of refusals.ShapeMismatch = pos 18
number_of refusals.RingMismatch = pos 19

-- a status from which it follows that the operands have no fault: 0, TooSmall or Singular
abbrev pub FindsNoFault : ℤ → Type 0
FindsNoFault status = (status ≡ pos 0)
    ⊎ ((status ≡ number_of refusals.TooSmall) ⊎ (status ≡ number_of refusals.Singular))

-- the error of a call whose arrays have a fault of this kind
abbrev pub refusal_of : SparseFormatErrorKind → Refusal
refusal_of kinds.IndexOutOfBounds = refusals.IndexOutOfBounds
refusal_of kinds.DuplicateEntry = refusals.DuplicateEntry
refusal_of kinds.InvalidStructure = refusals.InvalidStructure
refusal_of kinds.OutOfMemory = refusals.OutOfMemory

-- the error of a call whose operation fails with an error of this kind
abbrev pub refusal_of_operation : OperationErrorKind → Refusal
refusal_of_operation operations.Singular = refusals.Singular
refusal_of_operation operations.InvalidPattern = refusals.InvalidStructure
refusal_of_operation operations.OutOfMemory = refusals.OutOfMemory

-- the kind of the error of a text
abbrev pub kind_of_text : MatrixMarketError → MatrixMarketErrorKind
kind_of_text error = kind_of error

-- the error of a call whose text has an error of this kind
abbrev pub refusal_of_text : MatrixMarketErrorKind → Refusal
refusal_of_text texts.ParsingError = refusals.InvalidText
refusal_of_text texts.InvalidHeader = refusals.InvalidHeader
refusal_of_text texts.EntryMismatch = refusals.EntryMismatch
refusal_of_text texts.TypeMismatch = refusals.TypeMismatch
refusal_of_text texts.ZeroError = refusals.ZeroIndex
refusal_of_text (texts.SparseFormatError kind) = refusal_of kind
refusal_of_text texts.DiagonalError = refusals.DiagonalEntry
refusal_of_text (texts.IOError kind) = refusals.Unreadable
refusal_of_text texts.NotLowerTriangle = refusals.NotLowerTriangle
refusal_of_text texts.NonSquare = refusals.NonSquare
refusal_of_text texts.OutOfMemory = refusals.OutOfMemory
