-- A text that is written again line by line: what holds after some of its lines.
use Rattle.std.specs.Prelude.{◌≡◌, ◌⊎◌, ℕ, ℤ, true, false, List, [], ◌∷◌, ◌++◌}
use Rattle.std.specs.Prelude.{Some, filter}
use Rattle.std.specs.Fmt.{signed_decimal}
use Rattle.std.specs.Int.{w128}
use Rattle.std.specs.Int.RustNames.{FitsSigned}
use Rattle.std.specs.List.{list_all, flat_map, AllByRecursion}
use Rattle.sparse_parser.specs.declared.header.Field.TheVariants.{Integer}
use Rattle.sparse_parser.specs.declared.header.Format.{Format}
use Rattle.sparse_parser.specs.declared.header.Symmetry.{Symmetry}
use Rattle.sparse_parser.specs.declared.header.Header.{Header}
use Rattle.sparse_parser.specs.Header.{header_of, is_allowed}
use Rattle.sparse_parser.specs.Grammar.{IsOneLine, AreLines, AreBlanks}
use Rattle.sparse_parser.specs.Grammar.{is_index, is_number, is_size, is_entry}
use Rattle.sparse_parser.specs.InnerReading.{is_content, words_of, written_lines}
use Rattle.mtxkit_matrices.specs.Decimals.{IsScaled}
use Rattle.sparse_faults.specs.InnerLines.{AreAbove}
use Rattle.mtxkit_matrices.specs.ScaledTexts.{IsScaledEntry, AreScaled, is_decimal, with_integers}
use Rattle.mtxkit_matrices.specs.ScaledTexts.{IsSized, IsBlankOrComment, integer_head}
use Rattle.mtxkit_matrices.specs.ScaledTexts.{IsWrittenBelow, AreLinesKept, ended_line}
use Rattle.mtxkit_matrices.specs.declared.decimals.stage.Stage.{Stage}
use Rattle.mtxkit_matrices.specs.declared.decimals.stage.Stage.TheVariants.{Head, Sizes, Entries}

-- the line is blank or a comment
abbrev pub AreBlankOrComment : List (List ℕ) → Type 0
AreBlankOrComment words = (words ≡ []) ⊎ (is_content words ≡ false)

-- at this stage a line with the words `words` is written as one with the words `written`, and the
-- next line is at stage `next`
abbrev pub IsStep : ℕ → Stage → List (List ℕ) → Stage → List (List ℕ) → Type 0
IsStep scale Head words next written =
    ((words ≡ []) × (written ≡ []) × (next ≡ Head))
    ⊎ ((h : Header) × (next ≡ Sizes h) × (header_of words ≡ Some h)
    × (header_of written ≡ Some (with_integers h)) × (is_decimal h.field ≡ true)
    × (is_allowed h ≡ true))
IsStep scale (Sizes h) words next written =
    (AreBlankOrComment words × (written ≡ words) × (next ≡ Sizes h))
    ⊎ ((is_content words ≡ true) × (written ≡ words) × (next ≡ Entries h)
    × (is_size words ≡ true) × IsSized h words)
IsStep scale (Entries h) words next written =
    (AreBlankOrComment words × (written ≡ words) × (next ≡ Entries h))
    ⊎ ((is_content words ≡ true) × (is_content written ≡ true) × (next ≡ Entries h)
    × (is_entry words ≡ true) × (is_entry written ≡ true)
    × IsScaledEntry scale h.format words written)

-- `others` are the contents below the header in the lines read, and `more` those in the lines written
pub record AreBelow (h : Header) (read wrote others more : List (List (List ℕ))) : Type 0 where
  pub head : List (List ℕ)
  pub head' : List (List ℕ)
  pub read_is : read ≡ head ∷ others
  pub wrote_is : wrote ≡ head' ∷ more
  pub says : header_of head ≡ Some h
  pub says' : header_of head' ≡ Some (with_integers h)
  pub field : is_decimal h.field ≡ true
  pub allowed : is_allowed h ≡ true

-- the contents below the header are the size line and data lines, and the written ones are scaled
pub record AreEntries (scale : ℕ) (h : Header) (contents contents' : List (List (List ℕ))) : Type
    0 where
  pub size : List (List ℕ)
  pub lines : List (List (List ℕ))
  pub entries : List (List (List ℕ))
  pub contents_are : contents ≡ size ∷ lines
  pub contents'_are : contents' ≡ size ∷ entries
  pub sized : is_size size ≡ true
  pub sizes : IsSized h size
  pub listed : list_all is_entry lines ≡ true
  pub listed' : list_all is_entry entries ≡ true
  pub values : AreScaled scale h.format lines entries

-- at this stage the lines `read`, without blank lines, are written as the lines `wrote`
abbrev pub AreRewritten : ℕ → Stage → List (List (List ℕ)) → List (List (List ℕ)) → Type 0
AreRewritten scale Head read wrote = (read ≡ []) × (wrote ≡ [])
AreRewritten scale (Sizes h) read wrote =
    (others : List (List (List ℕ))) × AreBelow h read wrote others others
    × (filter is_content others ≡ [])
AreRewritten scale (Entries h) read wrote =
    (others : List (List (List ℕ))) × (more : List (List (List ℕ)))
    × AreBelow h read wrote others more
    × AreEntries scale h (filter is_content others) (filter is_content more)

-- ---- one line

-- the header with the field `integer`, this format and this symmetry
abbrev pub integers_in : Format → Symmetry → Header
integers_in format symmetry = record { format = format; field = Integer; symmetry = symmetry }

-- the header line with the field `integer`, this format and this symmetry
pub record IsHead (format : Format) (symmetry : Symmetry) (line : List ℕ) : Type 0 where
  pub is : line ≡ integer_head (integers_in format symmetry)
  pub plain : IsOneLine line
  pub says : header_of (words_of line) ≡ Some (integers_in format symmetry)
  pub allowed : is_allowed (integers_in format symmetry) ≡ true

-- what is written for a line at this stage, if the next one is at stage `next`: the header line with integers, what is
-- written below the size line, or the line itself
abbrev pub IsWrittenAt : Stage → Stage → List ℕ → List ℕ → Type 0
IsWrittenAt Head (Sizes h) line written = written ≡ integer_head h
IsWrittenAt (Entries h) next line written = IsWrittenBelow line written
IsWrittenAt stage next line written = written ≡ line

-- for this line a line was appended, and the next one is at stage `next`
pub record IsLineWritten (scale : ℕ) (stage : Stage) (line : List ℕ) (next : Stage)
    (old new : List ℕ) : Type 0 where
  pub written : List ℕ
  pub appended : new ≡ old ++ written
  pub plain : IsOneLine written
  pub kept : IsWrittenAt stage next line written
  pub step : IsStep scale stage (words_of line) next (words_of written)

-- two indices and an integer
abbrev pub coordinate_text : List ℕ → List ℕ → ℤ → List ℕ
coordinate_text row col number = row ++ (32 ∷ (col ++ (32 ∷ signed_decimal number)))

-- for a data line with these words, its two indices and its scaled value were appended
pub record IsCoordinateLine (scale : ℕ) (words : List (List ℕ)) (old new : List ℕ) : Type 0 where
  pub row : List ℕ
  pub col : List ℕ
  pub value : List ℕ
  pub number : ℤ
  pub words_are : words ≡ row ∷ col ∷ value ∷ []
  pub row_is : is_index row ≡ true
  pub col_is : is_index col ≡ true
  pub value_is : is_number value ≡ true
  pub scaled : IsScaled scale value number
  pub fits : FitsSigned w128 number
  pub appended : new ≡ old ++ coordinate_text row col number

-- for a data line of one value, its scaled value was appended
pub record IsArrayLine (scale : ℕ) (words : List (List ℕ)) (old new : List ℕ) : Type 0 where
  pub value : List ℕ
  pub number : ℤ
  pub words_are : words ≡ value ∷ []
  pub value_is : is_number value ≡ true
  pub scaled : IsScaled scale value number
  pub fits : FitsSigned w128 number
  pub appended : new ≡ old ++ signed_decimal number

-- ---- the text

-- the lines are blank lines, a line with this header, and comments; only the header line is changed
pub record AreUnsized (header : Header) (lines written : List (List ℕ)) : Type 0 where
  pub blank : List (List ℕ)
  pub head : List ℕ
  pub between : List (List ℕ)
  pub lines_are : lines ≡ blank ++ (head ∷ between)
  pub written_are : written ≡ blank ++ (integer_head header ∷ between)
  pub blanks : AllByRecursion AreBlanks blank
  pub some : AreBlanks head → ⊥
  pub skipped : AllByRecursion IsBlankOrComment between

-- the lines written are the lines read, except for the header and the data lines
abbrev pub AreLinesWritten : Stage → List (List ℕ) → List (List ℕ) → Type 0
AreLinesWritten Head lines written = (written ≡ lines) × AllByRecursion AreBlanks lines
AreLinesWritten (Sizes h) lines written = AreUnsized h lines written
AreLinesWritten (Entries h) lines written = AreLinesKept h lines written

-- the text above `rest`, which begins with the line of this number, was read, and `written` is what was
-- written for it
pub record IsTextWritten (scale : ℕ) (text : List ℕ) (stage : Stage) (number : ℕ)
    (rest written : List ℕ) : Type 0 where
  pub before : List (List ℕ)
  pub wrote : List (List ℕ)
  pub above : AreAbove text 1 before number rest
  pub wrote_is : (more : List ℕ) (behind : List (List ℕ)) → AreLines more behind
      → AreLines (written ++ more) (wrote ++ behind)
  pub ends : written ≡ flat_map ended_line wrote
  pub are : AreRewritten scale stage (written_lines before) (written_lines wrote)
  pub kept : AreLinesWritten stage before wrote
