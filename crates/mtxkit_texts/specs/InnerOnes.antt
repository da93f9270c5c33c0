-- A text of ones that is written line by line: what is written for a line, and what holds after some lines.
use Rattle.std.specs.Prelude.{◌≡◌, ℕ, if◌then◌else◌, List, [], ◌∷◌, ◌++◌, Option, Some, None}
use Rattle.sparse_parser.specs.declared.header.Header.{Header}
use Rattle.sparse_parser.specs.Grammar.{AreLines}
use Rattle.sparse_parser.specs.Header.{header_of}
use Rattle.mtxkit_texts.specs.Ones.{copied, ended, entry_lines, entry_words, head_words}
use Rattle.mtxkit_texts.specs.Ones.{has_no_contents, lines_below, ones_lines}
use Rattle.mtxkit_texts.specs.declared.ones.Stage.{Stage}
use Rattle.mtxkit_texts.specs.declared.ones.Stage.TheVariants.{Head, Sizes, Entries}

-- the words have no row and column
abbrev pub HasNoPlace : List (List ℕ) → Type 0
HasNoPlace [] = Unit {0}
HasNoPlace (word ∷ []) = Unit {0}
HasNoPlace (row ∷ col ∷ words) = ⊥

-- ---- one line

abbrev pub stage_under : Option Header → Stage
stage_under None = Head
stage_under (Some h) = Sizes h

-- the stage after a line with these words
abbrev pub next_stage : Stage → List (List ℕ) → Stage
next_stage Head words = stage_under (header_of words)
next_stage (Sizes h) words = if has_no_contents words then Sizes h else Entries h
next_stage (Entries h) words = Entries h

abbrev pub words_under : Option Header → List (List ℕ)
words_under None = []
words_under (Some h) = head_words h

-- the words that are written for a line with these words
abbrev pub stage_words : Stage → List (List ℕ) → List (List ℕ)
stage_words Head words = words_under (header_of words)
stage_words (Sizes h) words = if has_no_contents words then [] else copied words
stage_words (Entries h) words = entry_words h words

-- ---- the text

-- the lines that are written from this stage on
abbrev pub stage_lines : Stage → List (List ℕ) → List (List ℕ)
stage_lines Head lines = ones_lines lines
stage_lines (Sizes h) lines = lines_below h lines
stage_lines (Entries h) lines = entry_lines h lines

-- the text above `rest` was read, and `written` is what was written for it
pub record AreOnesAbove (text : List ℕ) (stage : Stage) (rest written : List ℕ) : Type 0 where
  pub before : List (List ℕ)
  pub read_is : (behind : List (List ℕ)) → AreLines rest behind → AreLines text (before ++ behind)
  pub written_is : (behind : List (List ℕ))
      → ended (ones_lines (before ++ behind)) ≡ written ++ ended (stage_lines stage behind)
