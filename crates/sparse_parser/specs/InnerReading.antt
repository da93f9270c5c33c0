-- The meaning of a text as a function, in the steps of the reader.
use Rattle.std.specs.Prelude.{◌≡◌, ℕ, Bool, true, false, ◌==◌, ◌+◌, not, List, [], ◌∷◌, length, map}
use Rattle.std.specs.Prelude.{filter, slice_index, Option, Some, None, Result, Ok, Err, MatchResult}
use Rattle.std.specs.Prelude.{if◌then◌else◌, ◌⊎◌}
use Rattle.std.specs.List.{slice_split, list_all}
use Rattle.sparse_coo_dense.specs.Coo.{Coo}
use Rattle.sparse_parser.specs.declared.error.Cause.{Cause}
use Rattle.sparse_parser.specs.declared.error.MatrixMarketErrorKind.{MatrixMarketErrorKind}
use Rattle.sparse_parser.specs.declared.error.MatrixMarketErrorKind.TheVariants.{ParsingError}
use Rattle.sparse_parser.specs.declared.error.MatrixMarketErrorKind.TheVariants.{EntryMismatch}
use Rattle.sparse_parser.specs.declared.error.MatrixMarketErrorKind.TheVariants.{OutOfMemory}
use Rattle.sparse_parser.specs.declared.error.MatrixMarketError.{MatrixMarketError}
use Rattle.sparse_parser.specs.declared.size.Size.{Size}
use Rattle.sparse_parser.specs.declared.header.Header.{Header}
use Rattle.sparse_parser.specs.Errors.{kind_of_cause, kind_of}
use Rattle.sparse_parser.specs.Bytes.{is_blank, is_line_end, leading}
use Rattle.sparse_parser.specs.InnerBytes.{is_within_line}
use Rattle.sparse_parser.specs.Words.{words_between}
use Rattle.sparse_parser.specs.Header.{header_of}
use Rattle.sparse_parser.specs.Grammar.{is_size, is_entry}
use Rattle.sparse_parser.specs.Reads.{Read}
use Rattle.sparse_parser.specs.Scalars.{Scalar}
use Rattle.sparse_parser.specs.Meaning.{Sizes, sizes_of, is_count, matrix_of, values_of}

abbrev pub is_some_line : List (List ℕ) → Bool
is_some_line [] = false
is_some_line (word ∷ words) = true

-- the words of a line, which are separated by blanks
unfoldable pub words_of : List ℕ → List (List ℕ)
words_of line = words_between is_blank line

-- the words of the first line of a text
unfoldable pub line_words : List ℕ → List (List ℕ)
line_words text = words_of (leading is_within_line text)

-- the words of each line that is not blank
abbrev pub written_lines : List (List ℕ) → List (List (List ℕ))
written_lines lines = filter is_some_line (map words_of lines)

unfoldable pub written_of : List ℕ → List (List (List ℕ))
written_of text = written_lines (slice_split is_line_end text)

-- the first word does not begin with %
unfoldable pub is_content : List (List ℕ) → Bool
is_content [] = true
is_content (word ∷ words) = not (slice_index word 0 == 37)

-- the words of each line that is neither blank nor a comment
unfoldable pub contents_of : List ℕ → List (List (List ℕ))
contents_of text = filter is_content (written_of text)

-- `r` if each line is a data line, else a parsing error
unfoldable pub among_entries : {A : Type 0} → List (List (List ℕ)) → Read A → Read A
among_entries lines r = if list_all is_entry lines then r else Err ParsingError

module _ (S : Scalar) where
  unfoldable pub body_of : Header → List (List (List ℕ)) → Read (Coo S.Value)
  body_of h [] = Err ParsingError
  body_of h (size ∷ entries) = if is_size size then among_entries entries
      (matrix_of S h size entries) else Err ParsingError

  abbrev pub judged : Option Header → List (List (List ℕ)) → Read (Coo S.Value)
  judged None contents = Err ParsingError
  judged (Some header) contents = body_of header contents

  -- the meaning of the words of lines: the first line is the header, and comments below it are
  -- skipped
  unfoldable pub document_of : List (List (List ℕ)) → Read (Coo S.Value)
  document_of [] = Err ParsingError
  document_of (first ∷ others) = judged (header_of first) (filter is_content others)

  unfoldable pub read : List ℕ → Read (Coo S.Value)
  read text = document_of (written_of text)

  -- the result is the meaning `r`, or an allocation failed
  abbrev pub Gives : {T : Type 0} → (T → S.Value) → Result (Coo T) MatrixMarketError
      → Read (Coo S.Value) → Type 0
  Gives value result r = MatchResult result (λ m. r ≡ Ok (values_of value m))
      (λ e. (kind_of e ≡ OutOfMemory) ⊎ (r ≡ Err (kind_of e)))

-- the number of lines, or `None` if one of them is not a data line
unfoldable pub count_of : List (List (List ℕ)) → Option ℕ
count_of lines = if list_all is_entry lines then Some (length lines) else None

-- the error of a text whose size line has an error of this kind, given the lines below it
unfoldable pub grammar_kind_of : MatrixMarketErrorKind → List (List (List ℕ))
    → MatrixMarketErrorKind
grammar_kind_of kind lines = if list_all is_entry lines then kind else ParsingError

-- the error of a text with an entry that has an error of this kind, given the number of data lines
-- read, that of the entry included, and the lines below
unfoldable pub settled_of : MatrixMarketErrorKind → ℕ → Option ℕ → List (List (List ℕ))
    → MatrixMarketErrorKind
settled_of kind read count lines = if list_all is_entry lines then if is_count count
    (read + length lines) then kind else EntryMismatch else ParsingError

abbrev pub size_numbers : Result Size Cause → Read Sizes
size_numbers (Ok s) = Ok (s.rows, s.cols, s.count)
size_numbers (Err cause) = Err (kind_of_cause cause)

-- the numbers of a size line or its error, or `None` if the words are not those of a size line
unfoldable pub size_at : Header → List (List ℕ) → Option (Read Sizes)
size_at h words = if is_size words then Some (sizes_of h words) else None

-- a result with the kind of a cause in place of the cause
abbrev pub found : {A : Type 0} → Result A Cause → Read A
found (Ok x) = Ok x
found (Err cause) = Err (kind_of_cause cause)

abbrev pub found_number : Option ℕ → Read ℕ
found_number (Some n) = Ok n
found_number None = Err ParsingError

abbrev pub ends_line : List ℕ → Bool
ends_line [] = true
ends_line (b ∷ text) = is_line_end b
