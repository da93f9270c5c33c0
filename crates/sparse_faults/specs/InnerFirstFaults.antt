-- The search for the first fault of a text: the lines that were passed.
use Rattle.std.specs.Prelude.{◌≡◌, ℕ, ℤ, ◌+◌, ◌-◌, ◌≤◌, ◌<◌, Bool, true, false, ◌&&◌, ◌==◌, List, []}
use Rattle.std.specs.Prelude.{◌∷◌, length, filter, slice_index, Option, Some, None, Result, Ok, Err}
use Rattle.std.specs.Prelude.{if◌then◌else◌, nat_lt, not}
use Rattle.std.specs.List.{list_all, AllByRecursion}
use Rattle.std.specs.Result.{is_ok}
use lib.IntN.{neg_ℤ}
use Rattle.sparse_parser.specs.declared.error.Cause.{Cause}
use Rattle.sparse_parser.specs.declared.header.Header.{Header}
use Rattle.sparse_parser.specs.declared.header.Symmetry.{Symmetry}
use Rattle.sparse_parser.specs.declared.header.Symmetry.TheVariants.{General, Symmetric}
use Rattle.sparse_parser.specs.declared.header.Symmetry.TheVariants.{SkewSymmetric, Hermitian}
use Rattle.sparse_parser.specs.declared.size.Size.{Size}
use Rattle.sparse_parser.specs.Grammar.{AreLines, is_index, is_size, is_entry}
use Rattle.sparse_parser.specs.Header.{header_of, is_allowed}
use Rattle.sparse_parser.specs.InnerReading.{is_content, words_of, written_lines, size_numbers}
use Rattle.sparse_parser.specs.Meaning.{number_of, place_of, triplets_of, sizes_of}
use Rattle.sparse_parser.specs.Reads.{Read}
use Rattle.sparse_parser.specs.Scalars.{Scalar, fits}
use Rattle.sparse_faults.specs.declared.fault.LineFault.{LineFault}
use Rattle.sparse_faults.specs.declared.line_faults.Search.{Search}
use Rattle.sparse_faults.specs.declared.line_faults.Search.TheVariants.{Grammar, Entries, Bounds}
use Rattle.sparse_faults.specs.declared.locations.Location.{Location}
use Rattle.sparse_faults.specs.declared.value_type.ValueType.{ValueType}
use Rattle.sparse_faults.specs.declared.value_type.ValueType.TheVariants.{Wide, Wrapping, Nothing}
use Rattle.sparse_faults.specs.FirstFaults.{HasMatrix, IsFirstFault, IsHeaderLine, IsSizeLine}
use Rattle.sparse_faults.specs.InnerLines.{IsCut, IsEnded, AreAbove}
use Rattle.sparse_faults.specs.ValueTypes.{scalar_as}

-- ---- lines that are skipped

-- a line with these words is skipped: it is blank, or a comment if the flag is set
abbrev pub is_skipped : Bool → List (List ℕ) → Bool
is_skipped comments [] = true
is_skipped comments (word ∷ words) = comments && (slice_index word 0 == 37)

abbrev pub AreSkippedLines : Bool → List (List ℕ) → Type 0
AreSkippedLines comments lines =
    AllByRecursion (λ line. is_skipped comments (words_of line) ≡ true) lines

-- the lines of the text above `rest`, which begins with the line `number`, are skipped
pub record AreSkipped (comments : Bool) (text : List ℕ) (first number : ℕ) (rest : List ℕ) : Type
    0 where
  pub lines : List (List ℕ)
  pub above : AreAbove text first lines number rest
  pub are : AreSkippedLines comments lines
  pub room : number + length rest ≤ first + length text

-- the first line that is not skipped, its number, and the text below it
pub record IsFirstLine (comments : Bool) (text : List ℕ) (first : ℕ) (line : List ℕ) (number : ℕ)
    (below : List ℕ) : Type 0 where
  pub rest : List ℕ
  pub others : List ℕ
  pub skipped : AreSkipped comments text first number rest
  pub cut : IsCut rest line others
  pub ended : IsEnded others below
  pub kept : is_skipped comments (words_of line) ≡ false
  pub room : number + 1 + length below ≤ first + length text

-- ---- the header and the size line

-- `others` are the words of the lines below a header, and `contents` those that are no comments
pub record AreHeadedBy (lines : List (List ℕ)) (h : Header) (contents : List (List (List ℕ)))
    : Type 0 where
  pub head : List (List ℕ)
  pub others : List (List (List ℕ))
  pub lines_are : written_lines lines ≡ head ∷ others
  pub says : header_of head ≡ Some h
  pub contents_are : filter is_content others ≡ contents

-- the header of a text, the number of its line, and the text below it
pub record IsHead (text : List ℕ) (h : Header) (number : ℕ) (below : List ℕ) : Type 0 where
  pub lines : List (List ℕ)
  pub above : AreAbove text 1 lines (number + 1) below
  pub are : AreHeadedBy lines h []
  pub at : IsHeaderLine text h number
  pub room : number + 1 + length below ≤ 1 + length text

-- the header of a text, its sizes or their error, the numbers of both lines, and the text below
pub record AreSizes (text : List ℕ) (h : Header) (header_line : ℕ) (r : Result Size Cause)
    (size_line : ℕ) (below : List ℕ) : Type 0 where
  pub size : List (List ℕ)
  pub lines : List (List ℕ)
  pub above : AreAbove text 1 lines (size_line + 1) below
  pub are : AreHeadedBy lines h (size ∷ [])
  pub sized : is_size size ≡ true
  pub sizes : size_numbers r ≡ sizes_of h size
  pub header_at : IsHeaderLine text h header_line
  pub size_at : IsSizeLine text h size size_line
  pub room : size_line + 1 + length below ≤ 1 + length text

-- ---- data lines

-- an entry with this row and column may be in a text with this symmetry
abbrev pub is_lower : Symmetry → ℕ × ℕ → Bool
is_lower General p = true
is_lower Symmetric p = not (nat_lt p.0 p.1)
is_lower SkewSymmetric p = nat_lt p.1 p.0
is_lower Hermitian p = not (nat_lt p.0 p.1)

-- the row and the column counted from 0, given those counted from 1 or a fault
abbrev pub IsPlaceOf : Read (ℕ × ℕ) → Result (ℕ × ℕ) LineFault → Type 0
IsPlaceOf place (Ok p) = (0 < p.0) × (0 < p.1) × (place ≡ Ok (p.0 - 1, p.1 - 1))
IsPlaceOf place (Err fault) = is_ok place ≡ false

-- the type has no values
abbrev pub is_nothing : ValueType → Bool
is_nothing Wide = false
is_nothing Wrapping = false
is_nothing Nothing = true

-- the type has this integer, which fits in 128 bits
abbrev pub has_integer : ValueType → ℤ → Bool
has_integer Wide z = true
has_integer Wrapping z = fits 63 z
has_integer Nothing z = false

-- the type has the negative of its integer z, if the symmetry implies it
abbrev pub has_negative : ValueType → Symmetry → ℤ → Bool
has_negative Wide General z = true
has_negative Wide Symmetric z = true
has_negative Wide SkewSymmetric z = fits 127 (neg_ℤ z)
has_negative Wide Hermitian z = true
has_negative Wrapping y z = true
has_negative Nothing y z = true

-- an entry below a header with this symmetry may have the integer z, which fits in 128 bits
abbrev pub is_value : ValueType → Symmetry → ℤ → Bool
is_value values y z = has_integer values z && has_negative values y z

abbrev pub is_ok_and : {A : Type 0} → (A → Bool) → Read A → Bool
is_ok_and test (Ok x) = test x
is_ok_and test (Err e) = false

abbrev pub is_err_or : {A : Type 0} → (A → Bool) → Read A → Bool
is_err_or test (Ok x) = test x
is_err_or test (Err e) = true

-- the row and the column of these words, if they begin with two indices, are within the shape
unfoldable pub is_within : ℕ → ℕ → List (List ℕ) → Bool
is_within rows cols (row ∷ col ∷ words) = if is_index row && is_index col
    then is_err_or (λ p. nat_lt p.0 rows && nat_lt p.1 cols)
    (place_of (number_of row) (number_of col)) else true
is_within rows cols words = true

-- the data line with these words has triplets, whatever its place in an array on or below the
-- diagonal is; (1, 0) is such a place
unfoldable pub has_triplets : ValueType → Header → List (List ℕ) → Bool
has_triplets values h words = is_ok (triplets_of (scalar_as values) h (Some (1, 0)) words)

-- the search finds no fault in a data line with these words
unfoldable pub passes : Search → List (List ℕ) → Bool
passes Grammar words = true
passes (Entries h values) words = has_triplets values h words
passes (Bounds s) words = is_within s.rows s.cols words

-- the header of the entries that are searched is allowed
abbrev pub IsAllowed : Search → Type 0
IsAllowed Grammar = Unit {0}
IsAllowed (Entries h values) = is_allowed h ≡ true
IsAllowed (Bounds s) = Unit {0}

abbrev pub contents_in : List (List ℕ) → List (List (List ℕ))
contents_in lines = filter is_content (written_lines lines)

-- these lines are data lines in which the search finds no fault
pub record AreEntries (search : Search) (lines : List (List (List ℕ))) : Type 0 where
  pub listed : list_all is_entry lines ≡ true
  pub pass : list_all (passes search) lines ≡ true

-- the contents of the text above `rest`, which begins with the line `number`, are `count` data lines
-- in which the search finds no fault
pub record ArePassed (search : Search) (text : List ℕ) (first count number : ℕ) (rest : List ℕ)
    : Type 0 where
  pub lines : List (List ℕ)
  pub above : AreAbove text first lines number rest
  pub counted : count ≡ length (contents_in lines)
  pub entries : AreEntries search (contents_in lines)
  pub room : number + length rest ≤ first + length text
  pub few : count + length rest ≤ length text

-- the first line with a fault that the search finds
pub record IsFailing (search : Search) (text : List ℕ) (first number : ℕ) : Type 0 where
  pub before : List (List ℕ)
  pub rest : List ℕ
  pub line : List ℕ
  pub others : List ℕ
  pub above : AreAbove text first before number rest
  pub cut : IsCut rest line others
  pub entries : AreEntries search (contents_in before)
  pub content : is_skipped true (words_of line) ≡ false
  pub fails : (is_entry (words_of line) && passes search (words_of line)) ≡ false

-- the text has only data lines in which the search finds no fault, and their number is `count`
pub record AllPass (search : Search) (text : List ℕ) (count : ℕ) : Type 0 where
  pub lines : List (List ℕ)
  pub are : AreLines text lines
  pub counted : count ≡ length (contents_in lines)
  pub entries : AreEntries search (contents_in lines)

-- the line of the first fault of the text, or a text that has none
abbrev pub IsFirstFaultOrNone : Scalar → List ℕ → Option Location → Type 0
IsFirstFaultOrNone S text (Some location) = IsFirstFault S text location.line
IsFirstFaultOrNone S text None = HasMatrix S text
