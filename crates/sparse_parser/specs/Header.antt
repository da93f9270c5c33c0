-- The header that the words of a line give.
use Rattle.std.specs.Prelude.{ℕ, Bool, true, false, List, [], ◌∷◌, map, Option, Some, None}
use Rattle.std.specs.Prelude.{option_and_then, if◌then◌else◌, codes}
use Rattle.std.specs.Str.{bytes_eq}
use Rattle.std.specs.Char.{to_ascii_lowercase}
use Rattle.sparse_parser.specs.declared.header.Format.{Format}
use Rattle.sparse_parser.specs.declared.header.Format.TheVariants.{Coordinate, Array}
use Rattle.sparse_parser.specs.declared.header.Field.{Field}
use Rattle.sparse_parser.specs.declared.header.Field.TheVariants.{Real, Complex, Integer, Pattern}
use Rattle.sparse_parser.specs.declared.header.Symmetry.{Symmetry}
use Rattle.sparse_parser.specs.declared.header.Symmetry.TheVariants.{General, Symmetric}
use Rattle.sparse_parser.specs.declared.header.Symmetry.TheVariants.{SkewSymmetric, Hermitian}
use Rattle.sparse_parser.specs.declared.header.Header.{Header}

-- the word is the name, in any ASCII case
unfoldable pub says : List ℕ → List ℕ → Bool
says word name = bytes_eq (map to_ascii_lowercase word) (map to_ascii_lowercase name)

unfoldable pub format_of : List ℕ → Option Format
format_of word = if says word (codes "coordinate") then Some Coordinate else if says word
    (codes "array") then Some Array else None

unfoldable pub field_of : List ℕ → Option Field
field_of word =
    if says word (codes "real") then Some Real else
    if says word (codes "complex") then Some Complex else
    if says word (codes "integer") then Some Integer else
    if says word (codes "pattern") then Some Pattern else None

unfoldable pub symmetry_of : List ℕ → Option Symmetry
symmetry_of word =
    if says word (codes "general") then Some General else
    if says word (codes "symmetric") then Some Symmetric else
    if says word (codes "skew-symmetric") then Some SkewSymmetric else
    if says word (codes "hermitian") then Some Hermitian else None

infixl 10 ◌>>=◌
abbrev pub ◌>>=◌ : {A B : Type 0} → Option A → (A → Option B) → Option B
o >>= f = option_and_then f o

-- a format, a field and a symmetry
unfoldable pub fields_of : List (List ℕ) → Option Header
fields_of (format ∷ field ∷ symmetry ∷ []) = do
  f ← format_of format
  g ← field_of field
  s ← symmetry_of symmetry
  Some (record { format = f; field = g; symmetry = s })
fields_of words = None

-- the words %%MatrixMarket and matrix, followed by a format, a field and a symmetry
unfoldable pub header_of : List (List ℕ) → Option Header
header_of (banner ∷ object ∷ fields) = if says banner (codes "%%MatrixMarket") then if says object
    (codes "matrix") then fields_of fields else None else None
header_of words = None

-- a hermitian matrix is complex; a pattern is neither skew-symmetric nor an array
abbrev pub is_allowed : Header → Bool
is_allowed h = are_allowed h.format h.field h.symmetry
  where
    are_allowed : Format → Field → Symmetry → Bool
    are_allowed f Complex Hermitian = true
    are_allowed f g Hermitian = false
    are_allowed f Pattern SkewSymmetric = false
    are_allowed Array Pattern s = false
    are_allowed f g s = true
