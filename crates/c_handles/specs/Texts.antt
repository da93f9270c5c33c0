-- Matrix Market texts that are read into handles or written from the matrices that handles hold.
use Rattle.std.specs.Prelude.{◌≡◌, ◌⊎◌, ◌<◌, ℕ, ℤ, pos, Ok}
use Rattle.std.specs.Prelude.{Err, List, Option, codes, length, IsUtf8}
use Rattle.std.specs.Fmt.{signed_decimal}
use Rattle.std.specs.Int.{w64}
use Rattle.sparse_algebra.specs.Plain.{Plain, row_order}
use Rattle.sparse_algebra.specs.Whole.{number_of}
use Rattle.sparse_algebra.specs.Wrapping.{class_of}
use Rattle.sparse_algebra.specs.declared.scalar.wrapping.W64.{W64}
use Rattle.sparse_coo_dense.specs.Coo.{Coo}
use Rattle.sparse_coo_dense.specs.CooPlain.{plain_of_coo}
use Rattle.c_arrays.specs.Arrays.{ring64}
use Rattle.c_arrays.specs.Lists.{HoldsText}
use Rattle.c_arrays.specs.Refused.{IsOutOfMemoryOr}
use Rattle.c_arrays.specs.Rests.{KeepsBehind}
use Rattle.c_arrays.specs.Statuses.{number_of as status_of, refusal_of_text}
use Rattle.c_arrays.specs.declared.refusal.Refusal.{Refusal}
use Rattle.c_arrays.specs.declared.refusal.Refusal.TheVariants.{TooSmall, Unreadable}
use Rattle.sparse_compressed.specs.Compressed.{Compressed}
use Rattle.c_handles.specs.Held.{plain_held, Holds, IsEmpty}
use Rattle.sparse_io.specs.Written.{written_text_with}
use Rattle.sparse_io.specs.declared.banner.Banner.TheVariants.{MixedCase}
use Rattle.sparse_market_scalar.specs.ScalarTypes.{wrapping_scalar}
use Rattle.sparse_parser.specs.Meaning.{Means}
use Rattle.sparse_parser.specs.declared.error.MatrixMarketErrorKind.{MatrixMarketErrorKind}

-- the text means a list of integer triplets, and the handle holds the matrix of this list
abbrev pub HoldsMeaning : Option (Compressed W64) → List ℕ → Type 0
HoldsMeaning handle text = (m : Coo ℤ) × Means (wrapping_scalar w64) text (Ok m)
    × Holds handle (plain_of_coo ring64 (class_of w64) m)

-- the error of a text that has an error
abbrev pub IsTextError : List ℕ → Refusal → Type 0
IsTextError text refusal = (kind : MatrixMarketErrorKind)
    × Means (wrapping_scalar w64) text (Err kind) × (refusal ≡ refusal_of_text kind)

-- the error of bytes that are not UTF-8, or of a text that has an error
abbrev pub IsTextFault : List ℕ → Refusal → Type 0
IsTextFault text refusal = ((refusal ≡ Unreadable) × (IsUtf8 text → ⊥)) ⊎ IsTextError text refusal

-- the text of a residue: the decimal digits of its representative from -2^63 to 2^63 - 1
abbrev pub residue_text : ring64.Carrier → List ℕ
residue_text c = signed_decimal (number_of w64 c)

-- the Matrix Market text of a plain matrix, which begins `%%MatrixMarket`: a line for each place, row by row
abbrev pub text_of_plain : Plain ring64 → List ℕ
text_of_plain a =
    written_text_with MixedCase (codes "integer") residue_text a.rows a.cols (row_order ring64 a)

-- the error of a call that writes a text: the handle is empty, or the buffer is shorter than the text of its matrix
abbrev pub IsTextUnwritten : Option (Compressed W64) → List ℕ → Refusal → Type 0
IsTextUnwritten a buffer refusal = IsEmpty a refusal ⊎ ((refusal ≡ TooSmall)
    × (length buffer < length (text_of_plain (plain_held a))))

-- on the error TooSmall the variable for the length becomes the length of the text, on any other error it is unchanged
abbrev pub TellsLength : Refusal → ℕ → ℕ → ℕ → Type 0
TellsLength TooSmall length old new = new ≡ length
TellsLength _ length old new = new ≡ old

-- the status of a call that writes the text of the matrix that a handle holds, the buffer before and after the call,
-- and the variable for the length of the text before and after it
abbrev pub WritesText : ℤ → Option (Compressed W64) → List ℕ → List ℕ → ℕ → ℕ → Type 0
WritesText status a before after old new = let text = text_of_plain (plain_held a) in
    ((status ≡ pos 0) × HoldsText text after new × KeepsBehind new before after)
    ⊎ ((refusal : Refusal) × (status ≡ status_of refusal)
    × IsOutOfMemoryOr (IsTextUnwritten a before) refusal × (after ≡ before)
    × TellsLength refusal (length text) old new)
