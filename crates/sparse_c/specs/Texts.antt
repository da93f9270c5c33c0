-- Calls that read and write Matrix Market texts of integers.
use Rattle.std.specs.Prelude.{◌≡◌, ◌⊎◌, ◌<◌, ℕ, ℤ, Ok, Err, List, codes, length, IsUtf8}
use Rattle.std.specs.Fmt.{signed_decimal}
use Rattle.std.specs.Int.{w64}
use Rattle.sparse_coo_dense.specs.Coo.{Coo, coo_of, zip_triplets}
use Rattle.sparse_faults.specs.FirstFaults.{IsFirstFault}
use Rattle.sparse_io.specs.Written.{text_with}
use Rattle.sparse_io.specs.declared.banner.Banner.TheVariants.{MixedCase}
use Rattle.sparse_market_scalar.specs.ScalarTypes.{wrapping_scalar}
use Rattle.sparse_parser.specs.Meaning.{Means}
use Rattle.sparse_parser.specs.declared.error.MatrixMarketErrorKind.{MatrixMarketErrorKind}
use Rattle.c_arrays.specs.Lists.{ListOutputArrays, HoldsList, IsListTooSmall}
use Rattle.c_arrays.specs.Statuses.{refusal_of_text}
use Rattle.c_arrays.specs.declared.refusal.Refusal.{Refusal}
use Rattle.c_arrays.specs.declared.refusal.Refusal.TheVariants.{Unreadable}

-- the text means the list m of integer triplets
abbrev pub IsTextOf : List ℕ → Coo ℤ → Type 0
IsTextOf text m = Means (wrapping_scalar w64) text (Ok m)

-- rows, cols and count are the shape of the list that the text means and the number of its triplets
pub record SizesText (text : List ℕ) (rows cols count : ℕ) : Type 0 where
  pub list : Coo ℤ
  pub meant : IsTextOf text list
  pub rows_are : rows ≡ list.nrows
  pub cols_are : cols ≡ list.ncols
  pub count_is : count ≡ length list.triplets

-- n is the number of triplets of the list that the text means
abbrev pub CountsText : List ℕ → ℕ → Type 0
CountsText text n = (m : Coo ℤ) × IsTextOf text m × (n ≡ length m.triplets)

-- the arrays start with the triplets of the list that the text means
abbrev pub WritesTriplets : List ℕ → ListOutputArrays → Type 0
WritesTriplets text room = (m : Coo ℤ) × IsTextOf text m × HoldsList m room

-- an array is too short for the triplets of the list that the text means
abbrev pub IsTextTooLong : List ℕ → ListOutputArrays → Type 0
IsTextTooLong text room = (m : Coo ℤ) × IsTextOf text m × IsListTooSmall m room

-- the error of bytes that are not UTF-8
abbrev pub IsUnreadable : List ℕ → Refusal → Type 0
IsUnreadable text refusal = (refusal ≡ Unreadable) × (IsUtf8 text → ⊥)

-- the error of a text that has an error
abbrev pub IsErrorOfText : List ℕ → Refusal → Type 0
IsErrorOfText text refusal = (kind : MatrixMarketErrorKind)
    × Means (wrapping_scalar w64) text (Err kind) × (refusal ≡ refusal_of_text kind)

-- the error of bytes that are not UTF-8, or of a text that has an error
abbrev pub IsFaultOfText : List ℕ → Refusal → Type 0
IsFaultOfText text refusal = IsUnreadable text refusal ⊎ IsErrorOfText text refusal

-- the line with this number has the first fault of the text, or the number is 0 and the text has no error
abbrev pub IsFaultLine : List ℕ → ℕ → Type 0
IsFaultLine text line = ((0 < line) × IsFirstFault (wrapping_scalar w64) text line)
    ⊎ ((line ≡ 0) × ((m : Coo ℤ) × IsTextOf text m))

-- the text that is written for a list of triplets, given as lists of rows, columns and values: it begins
-- `%%MatrixMarket`
abbrev pub text_of_lists : ℕ → ℕ → List ℕ → List ℕ → List ℤ → List ℕ
text_of_lists rows cols is js vs = text_with MixedCase (codes "integer") signed_decimal
    (coo_of rows cols (zip_triplets is js vs))
