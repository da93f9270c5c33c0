-- The failures for texts that have errors.
use Rattle.std.specs.Prelude.{◌≡◌, ℕ, Bool, true, false, List}
use Rattle.sparse_parser.specs.declared.error.MatrixMarketErrorKind.{MatrixMarketErrorKind}
use Rattle.sparse_parser.specs.declared.error.MatrixMarketErrorKind.TheVariants as kinds
use Rattle.sparse_parser.specs.Scalars.{Scalar}
use Rattle.sparse_faults.specs.FirstFaults.{IsFirstFault}
use Rattle.mtxkit_texts.specs.Headers.{header_in, is_supported}
use Rattle.mtxkit_texts.specs.declared.failure.Failure.{Failure}
use Rattle.mtxkit_texts.specs.declared.failure.Failure.TheVariants.{Input, NotSupported, OutOfMemory}
use Rattle.sparse_faults.specs.declared.locations.Location.{Location}

-- the failure names the number of the text, this kind of error and the line with the first fault of the text, read with
-- values of this type
abbrev pub IsInput : Scalar → ℕ → List ℕ → MatrixMarketErrorKind → Failure → Type 0
IsInput S number text kind failure = (location : Location) × (IsFirstFault S text location.line
    × (failure ≡ Input number kind location))

-- the failure for a value that does not have the type that is read; the flag tells whether the header names integers or
-- a pattern, or no field
abbrev pub IsMismatch : Scalar → Bool → ℕ → List ℕ → Failure → Type 0
IsMismatch S true number text failure = IsInput S number text kinds.TypeMismatch failure
IsMismatch S false number text failure = failure ≡ NotSupported number

-- the failure for the text with this number, which has this error, read with values of this type; it is `NotSupported`
-- only if the header names the field `real` or `complex`
abbrev pub IsTextFault : Scalar → ℕ → List ℕ → MatrixMarketErrorKind → Failure → Type 0
IsTextFault S number text kinds.OutOfMemory failure = failure ≡ OutOfMemory
IsTextFault S number text kinds.TypeMismatch failure =
    IsMismatch S (is_supported (header_in text)) number text failure
IsTextFault S number text kind failure = IsInput S number text kind failure
