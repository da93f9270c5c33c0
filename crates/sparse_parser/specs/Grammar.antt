-- The grammar of a Matrix Market text: its lines, their words, and the classes of words and lines.
use Rattle.std.specs.Prelude.{◌≡◌, ◌≢◌, ℕ, ◌<◌, Bool, true, false, ◌&&◌, ◌||◌, not, nat_lt}
use Rattle.std.specs.Prelude.{count_by, List, [], ◌∷◌, ◌++◌, length, slice_index, ◌⊎◌, Some}
use Rattle.std.specs.List.{AllByRecursion, list_all, list_any}
use Rattle.std.specs.Char.{is_ascii_digit}
use Rattle.std.specs.Str.Parse.{without_leading_sign}
use Rattle.sparse_parser.specs.declared.header.Header.{Header}
use Rattle.sparse_parser.specs.Bytes.{is_blank, is_line_end, is_point, is_exponent_letter, leading}
use Rattle.sparse_parser.specs.Bytes.{after}
use Rattle.sparse_parser.specs.Header.{header_of}

-- LF, CR LF, or a CR that no LF follows
abbrev pub IsLineEnd : List ℕ → List ℕ → Type 0
IsLineEnd end rest =
    (end ≡ 10 ∷ []) ⊎ ((end ≡ 13 ∷ 10 ∷ []) ⊎ ((end ≡ 13 ∷ []) × (slice_index rest 0 ≢ 10)))

-- no byte of the line is a line end
abbrev pub IsOneLine : List ℕ → Type 0
IsOneLine line = AllByRecursion (λ b. is_line_end b ≡ false) line

-- the text consists of these lines, each with a line end; the last may lack one if it is not empty
abbrev pub AreLines : List ℕ → List (List ℕ) → Type 0
AreLines text [] = text ≡ []
AreLines text (line ∷ lines) = IsOneLine line × (((0 < length line) × (text ≡ line) × (lines ≡ []))
    ⊎ ((end : List ℕ) × (rest : List ℕ) × IsLineEnd end rest × (text ≡ line ++ (end ++ rest))
    × AreLines rest lines))

abbrev pub AreBlanks : List ℕ → Type 0
AreBlanks bytes = AllByRecursion (λ b. is_blank b ≡ true) bytes

-- what may follow a word on its line: nothing, or text that begins with a blank
abbrev pub IsWordEnd : List ℕ → Type 0
IsWordEnd [] = Unit {0}
IsWordEnd (b ∷ rest) = is_blank b ≡ true

-- the line consists of these words, separated by blanks
abbrev pub AreWords : List ℕ → List (List ℕ) → Type 0
AreWords line [] = AreBlanks line
AreWords line (word ∷ words) = (before : List ℕ) × (rest : List ℕ) × AreBlanks before
    × (0 < length word) × AllByRecursion (λ b. is_blank b ≡ false) word
    × (line ≡ before ++ (word ++ rest)) × IsWordEnd rest × AreWords rest words

-- the contents of lines: the words of each line that is neither blank nor a comment
abbrev pub AreContents : List (List ℕ) → List (List (List ℕ)) → Type 0
AreContents [] contents = contents ≡ []
AreContents (line ∷ lines) contents = (AreBlanks line × AreContents lines contents)
    ⊎ (((before : List ℕ) × (rest : List ℕ) × AreBlanks before × (line ≡ before ++ (37 ∷ rest))
    × AreContents lines contents)
    ⊎ ((word : List ℕ) × (words : List (List ℕ)) × (others : List (List (List ℕ)))
    × AreWords line (word ∷ words) × (slice_index word 0 ≢ 37)
    × (contents ≡ (word ∷ words) ∷ others) × AreContents lines others))

-- the first line that is not blank has the words of the header, and the lines below have these
-- contents
abbrev pub AreHeaded : List (List ℕ) → List (List ℕ) → List (List (List ℕ)) → Type 0
AreHeaded [] header contents = ⊥
AreHeaded (line ∷ lines) header contents = (AreBlanks line × AreHeaded lines header contents)
    ⊎ ((word : List ℕ) × (words : List (List ℕ)) × AreWords line (word ∷ words)
    × (header ≡ word ∷ words) × AreContents lines contents)

-- the text has this header, and these contents below it
pub record IsHeaded (text : List ℕ) (header : Header) (contents : List (List (List ℕ))) : Type
    0 where
  pub lines : List (List ℕ)
  pub words : List (List ℕ)
  pub cut : AreLines text lines
  pub headed : AreHeaded lines words contents
  pub says : header_of words ≡ Some header

-- an index: a nonempty run of digits
abbrev pub is_index : List ℕ → Bool
is_index word = nat_lt 0 (length word) && list_all is_ascii_digit word

-- an integer: an optional sign and digits
abbrev pub is_integer : List ℕ → Bool
is_integer word = is_index (without_leading_sign word)

-- digits with at most one point, and at least one digit
abbrev pub is_mantissa : List ℕ → Bool
is_mantissa word = list_all (λ b. is_ascii_digit b || is_point b) word
    && (list_any is_ascii_digit word && nat_lt (count_by is_point word) 2)

-- an exponent: nothing, or a letter followed by an integer
abbrev pub is_exponent : List ℕ → Bool
is_exponent [] = true
is_exponent (letter ∷ power) = is_integer power

-- a mantissa followed by an exponent, which begins at the first letter e or E
abbrev pub is_unsigned_number : List ℕ → Bool
is_unsigned_number word = is_mantissa (leading (λ b. not (is_exponent_letter b)) word)
    && is_exponent (after (λ b. not (is_exponent_letter b)) word)

-- a number: an optional sign, then an unsigned number
unfoldable pub is_number : List ℕ → Bool
is_number word = is_unsigned_number (without_leading_sign word)

-- a size line: two or three indices
unfoldable pub is_size : List (List ℕ) → Bool
is_size (rows ∷ cols ∷ count ∷ []) = is_index rows && is_index cols && is_index count
is_size (rows ∷ cols ∷ []) = is_index rows && is_index cols
is_size words = false

-- a data line: one or two numbers, or two indices and one or two numbers
unfoldable pub is_entry : List (List ℕ) → Bool
is_entry (v ∷ []) = is_number v
is_entry (v ∷ w ∷ []) = is_number v && is_number w
is_entry (row ∷ col ∷ v ∷ []) = is_index row && is_index col && is_number v
is_entry (row ∷ col ∷ v ∷ w ∷ []) =
    is_index row && is_index col && is_number v && is_number w
is_entry words = false

-- the text has this header, this size line and these data lines
pub record IsDocument (text : List ℕ) (header : Header) (size : List (List ℕ))
    (entries : List (List (List ℕ))) : Type 0 where
  pub headed : IsHeaded text header (size ∷ entries)
  pub sized : is_size size ≡ true
  pub listed : list_all is_entry entries ≡ true
