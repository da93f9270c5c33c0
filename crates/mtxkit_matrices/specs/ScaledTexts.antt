-- Texts of decimal numbers that are written again with integers.
use Rattle.std.specs.Prelude.{◌≡◌, ◌⊎◌, ◌<◌, ◌^◌, ℕ, ℤ, Bool, true, false, List, [], ◌∷◌, ◌++◌, Ok}
use Rattle.std.specs.Prelude.{codes, Option, Some, None}
use Rattle.std.specs.Fmt.{signed_decimal}
use Rattle.std.specs.Int.{w128}
use Rattle.std.specs.Int.RustNames.{FitsSigned}
use Rattle.std.specs.List.{AllByRecursion, flat_map}
use Rattle.sparse_parser.specs.declared.header.Format.{Format}
use Rattle.sparse_parser.specs.declared.header.Format.TheVariants.{Coordinate, Array}
use Rattle.sparse_parser.specs.declared.header.Field.{Field}
use Rattle.sparse_parser.specs.declared.header.Field.TheVariants.{Real, Complex, Integer, Pattern}
use Rattle.sparse_parser.specs.declared.header.Header.{Header}
use Rattle.sparse_parser.specs.Grammar.{IsDocument, AreLines, AreWords, AreBlanks}
use Rattle.sparse_parser.specs.Header.{is_allowed}
use Rattle.sparse_parser.specs.Meaning.{integer_of, Sizes, sizes_of}
use Rattle.mtxkit_matrices.specs.Decimals.{IsScaled}
use Rattle.mtxkit_matrices.specs.HeaderWords.{format_name, symmetry_name}

-- `written` is the decimal text of the word's number times 10 ^ scale, an integer of 128 bits
pub record IsScaledWord (scale : ℕ) (word written : List ℕ) : Type 0 where
  pub number : ℤ
  pub scaled : IsScaled scale word number
  pub fits : FitsSigned w128 number
  pub is : written ≡ signed_decimal number
  pub means : integer_of written ≡ Ok number

-- a data line, and the line with the same row and column and the scaled value
abbrev pub IsScaledEntry : ℕ → Format → List (List ℕ) → List (List ℕ) → Type 0
IsScaledEntry scale Coordinate (row ∷ col ∷ value ∷ []) (row' ∷ col' ∷ written ∷ []) =
    (row' ≡ row) × (col' ≡ col) × IsScaledWord scale value written
IsScaledEntry scale Array (value ∷ []) (written ∷ []) = IsScaledWord scale value written
IsScaledEntry scale format line written = ⊥

-- the same of each data line, in order
abbrev pub AreScaled : ℕ → Format → List (List (List ℕ)) → List (List (List ℕ)) → Type 0
AreScaled scale format [] [] = Unit {0}
AreScaled scale format (line ∷ lines) (entry ∷ entries) =
    IsScaledEntry scale format line entry × AreScaled scale format lines entries
AreScaled scale format lines entries = ⊥

-- the field is that of decimal numbers
abbrev pub is_decimal : Field → Bool
is_decimal Real = true
is_decimal Complex = false
is_decimal Integer = true
is_decimal Pattern = false

-- the words are a size line for this header
abbrev pub IsSized : Header → List (List ℕ) → Type 0
IsSized h words = (s : Sizes) × (sizes_of h words ≡ Ok s)

-- the header with the field `integer`
abbrev pub with_integers : Header → Header
with_integers h = record { format = h.format; field = Integer; symmetry = h.symmetry }

-- ---- the lines that are written

-- the header line with the field `integer`
abbrev pub integer_head : Header → List ℕ
integer_head h = codes "%%MatrixMarket matrix "
    ++ (format_name h.format ++ (codes " integer " ++ symmetry_name h.symmetry))

-- the line is blank or a comment
abbrev pub IsBlankOrComment : List ℕ → Type 0
IsBlankOrComment line = AreBlanks line ⊎ ((before : List ℕ) × (rest : List ℕ) × AreBlanks before
    × (line ≡ before ++ (37 ∷ rest)))

-- the words, with a space between each two
abbrev pub joined : List (List ℕ) → List ℕ
joined [] = []
joined (word ∷ []) = word
joined (word ∷ next ∷ words) = word ++ (32 ∷ joined (next ∷ words))

-- the line consists of words, with a space between each two
abbrev pub IsJoined : List ℕ → Type 0
IsJoined line = (words : List (List ℕ)) × AreWords line words × (line ≡ joined words)

-- a line below the size line, and the line that is written for it: blank lines and comments are unchanged, and the
-- words of data lines are joined
pub record IsWrittenBelow (line written : List ℕ) : Type 0 where
  pub unchanged : IsBlankOrComment line → written ≡ line
  pub spaced : (IsBlankOrComment line → ⊥) → IsJoined written

-- the same of each line, in order
abbrev pub AreWrittenBelow : List (List ℕ) → List (List ℕ) → Type 0
AreWrittenBelow [] [] = Unit {0}
AreWrittenBelow (line ∷ lines) (written ∷ more) =
    IsWrittenBelow line written × AreWrittenBelow lines more
AreWrittenBelow lines more = ⊥

-- the lines are blank lines, a line with this header, comments, the size line and data lines; only the header line and
-- the data lines are changed
pub record AreLinesKept (header : Header) (lines written : List (List ℕ)) : Type 0 where
  pub blank : List (List ℕ)
  pub head : List ℕ
  pub between : List (List ℕ)
  pub size : List ℕ
  pub below : List (List ℕ)
  pub below' : List (List ℕ)
  pub lines_are : lines ≡ blank ++ (head ∷ (between ++ (size ∷ below)))
  pub written_are : written ≡ blank ++ (integer_head header ∷ (between ++ (size ∷ below')))
  pub blanks : AllByRecursion AreBlanks blank
  pub some : AreBlanks head → ⊥
  pub skipped : AllByRecursion IsBlankOrComment between
  pub content : IsBlankOrComment size → ⊥
  pub entries : AreWrittenBelow below below'

-- a line, and LF as its end
abbrev pub ended_line : List ℕ → List ℕ
ended_line line = line ++ (10 ∷ [])

-- the text that is written has a line for each line of the text, and LF at the end of each
pub record HasLinesOf (header : Header) (text written : List ℕ) : Type 0 where
  pub lines : List (List ℕ)
  pub lines' : List (List ℕ)
  pub read : AreLines text lines
  pub wrote : AreLines written lines'
  pub ends : written ≡ flat_map ended_line lines'
  pub kept : AreLinesKept header lines lines'

-- ---- the text

-- a text of decimal numbers, and the text with the same sizes, rows, columns and comments whose
-- values are these numbers times 10 ^ scale; its bytes are determined
pub record IsScaledText (scale : ℕ) (text written : List ℕ) : Type 0 where
  pub header : Header
  pub size : List (List ℕ)
  pub lines : List (List (List ℕ))
  pub entries : List (List (List ℕ))
  pub read : IsDocument text header size lines
  pub field : is_decimal header.field ≡ true
  pub allowed : is_allowed header ≡ true
  pub sizes : IsSized header size
  pub wrote : IsDocument written (with_integers header) size entries
  pub values : AreScaled scale header.format lines entries
  pub by_lines : HasLinesOf header text written

-- the text can be written with its numbers times 10 ^ scale
abbrev pub CanBeScaled : ℕ → List ℕ → Type 0
CanBeScaled scale text = (written : List ℕ) × IsScaledText scale text written

-- the least scale with which the text can be written, or none if there is none below 2 ^ 32
abbrev pub IsLeastTextScale : List ℕ → Option ℕ → Type 0
IsLeastTextScale text (Some least) = CanBeScaled least text
    × ((scale : ℕ) → scale < least → CanBeScaled scale text → ⊥)
IsLeastTextScale text None = (scale : ℕ) → scale < 2 ^ 32 → CanBeScaled scale text → ⊥
