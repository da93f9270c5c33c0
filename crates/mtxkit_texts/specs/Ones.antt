-- Texts with the value 1 in place of each value: their places are those of the texts.
use Rattle.std.specs.Prelude.{◌≡◌, ℕ, Bool, true, if◌then◌else◌, List, [], ◌∷◌, ◌++◌, map}
use Rattle.std.specs.Prelude.{codes, slice_index, ◌==◌, Option, Some, None}
use Rattle.std.specs.Str.{is_utf8}
use Rattle.sparse_parser.specs.declared.header.Field.{Field}
use Rattle.sparse_parser.specs.declared.header.Field.TheVariants.{Integer}
use Rattle.sparse_parser.specs.declared.header.Format.{Format}
use Rattle.sparse_parser.specs.declared.header.Format.TheVariants.{Coordinate, Array}
use Rattle.sparse_parser.specs.declared.header.Header.{Header}
use Rattle.sparse_parser.specs.declared.header.Symmetry.{Symmetry}
use Rattle.sparse_parser.specs.declared.header.Symmetry.TheVariants.{General, Symmetric}
use Rattle.sparse_parser.specs.declared.header.Symmetry.TheVariants.{SkewSymmetric, Hermitian}
use Rattle.sparse_parser.specs.Grammar.{AreLines, IsDocument}
use Rattle.sparse_parser.specs.Header.{header_of}
use Rattle.sparse_parser.specs.InnerReading.{words_of}
use Rattle.sparse_parser.specs.Meaning.{is_of_field}
use Rattle.mtxkit_matrices.specs.HeaderWords.{format_name, symmetry_name}

-- ---- the header and the entries

-- the places of a hermitian text are those of a symmetric one
abbrev pub unconjugated : Symmetry → Symmetry
unconjugated General = General
unconjugated Symmetric = Symmetric
unconjugated SkewSymmetric = SkewSymmetric
unconjugated Hermitian = Symmetric

-- the header of the text of ones
abbrev pub with_ones : Header → Header
with_ones h =
    record { format = h.format; field = Integer; symmetry = unconjugated h.symmetry }

abbrev pub one : List ℕ
one = codes "1"

-- two numbers, which are no entry of a text of integers
abbrev pub no_entry : List (List ℕ)
no_entry = one ∷ one ∷ []

-- the words of a data line with the value 1 in place of its value; words with another number of values than those of
-- the field are no entry, and become none
unfoldable pub one_words : Format → Field → List (List ℕ) → List (List ℕ)
one_words Coordinate field (row ∷ col ∷ values) =
    if is_of_field field values then row ∷ col ∷ one ∷ [] else no_entry
one_words Array field values = if is_of_field field values then one ∷ [] else no_entry
one_words format field words = no_entry

-- ---- the lines

-- a line with these words is blank or a comment
abbrev pub has_no_contents : List (List ℕ) → Bool
has_no_contents [] = true
has_no_contents (word ∷ words) = slice_index word 0 == 37

-- each word with a blank after it
abbrev pub spaced : List (List ℕ) → List ℕ
spaced [] = []
spaced (word ∷ words) = word ++ (32 ∷ spaced words)

-- a word that is UTF-8, as all words of a text are
abbrev pub copy_of : List ℕ → List ℕ
copy_of word = if is_utf8 word then word else []

abbrev pub copied : List (List ℕ) → List (List ℕ)
copied words = map copy_of words

abbrev pub head_words : Header → List (List ℕ)
head_words h = codes "%%MatrixMarket" ∷ codes "matrix" ∷ format_name h.format
    ∷ codes "integer" ∷ symmetry_name (unconjugated h.symmetry) ∷ []

-- what is written for a line below the size line: nothing if it is blank or a comment
abbrev pub entry_words : Header → List (List ℕ) → List (List ℕ)
entry_words h words =
    if has_no_contents words then [] else copied (one_words h.format h.field words)

-- the lines below the size line
abbrev pub entry_lines : Header → List (List ℕ) → List (List ℕ)
entry_lines h lines = map (λ line. spaced (entry_words h (words_of line))) lines

-- the lines below the header: the first that is neither blank nor a comment is the size line
abbrev pub lines_below : Header → List (List ℕ) → List (List ℕ)
lines_below h [] = []
lines_below h (line ∷ lines) = if has_no_contents (words_of line) then [] ∷ lines_below h lines
    else spaced (copied (words_of line)) ∷ entry_lines h lines

-- the lines from a header on, or an empty line for a line that is no header
abbrev pub lines_under : Option Header → List (List ℕ) → List (List ℕ) → List (List ℕ)
lines_under (Some h) lines others = spaced (head_words h) ∷ lines_below h lines
lines_under None lines others = [] ∷ others

-- the lines of the text of ones, one for each line of a text
abbrev pub ones_lines : List (List ℕ) → List (List ℕ)
ones_lines [] = []
ones_lines (line ∷ lines) = lines_under (header_of (words_of line)) lines (ones_lines lines)

-- the text of these lines
abbrev pub ended : List (List ℕ) → List ℕ
ended [] = []
ended (line ∷ lines) = line ++ (10 ∷ ended lines)

-- ---- the text

-- `ones` is written for the lines of the text
abbrev pub AreOnesOf : List ℕ → List ℕ → Type 0
AreOnesOf text ones =
    (lines : List (List ℕ)) × (AreLines text lines × (ones ≡ ended (ones_lines lines)))

-- `ones` is a document of integers with the size line of the text and, for each of its data lines, an entry with the
-- value 1 at the same place, in the line with the same number
pub record IsOnesText (text ones : List ℕ) : Type 0 where
  pub header : Header
  pub size : List (List ℕ)
  pub lines : List (List (List ℕ))
  pub read : IsDocument text header size lines
  pub wrote : IsDocument ones (with_ones header) size
      (map (one_words header.format header.field) lines)
  pub by_lines : AreOnesOf text ones
