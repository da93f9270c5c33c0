-- Data lines of integers, as the fast path reads them.
use Rattle.std.specs.Prelude.{◌≡◌, ◌≢◌, ℕ, ℤ, true, List, [], ◌∷◌, length, Ok}
use Rattle.sparse_parser.specs.Bytes.{after}
use Rattle.sparse_parser.specs.InnerBytes.{is_within_line}
use Rattle.sparse_parser.specs.Grammar.{is_index, is_integer}
use Rattle.sparse_parser.specs.Meaning.{number_of, integer_of}
use Rattle.sparse_parser.specs.InnerReading.{line_words}
use Rattle.sparse_parser.specs.InnerNumbers.{IsNumberRead}
use Rattle.sparse_parser.specs.InnerLines.{IsWord, ends_word}

-- the first word of the line is an index of this value, and `rest` is the text after it
pub record IsIndexAt (text : List ℕ) (number : ℕ) (rest : List ℕ) : Type 0 where
  pub word : List ℕ
  pub at : IsWord text word rest
  pub index : is_index word ≡ true
  pub is : number_of word ≡ Ok number

-- the first word of the line is an integer of this value, and `rest` is the text after it
pub record IsIntegerAt (text : List ℕ) (value : ℤ) (rest : List ℕ) : Type 0 where
  pub word : List ℕ
  pub at : IsWord text word rest
  pub integer : is_integer word ≡ true
  pub is : integer_of word ≡ Ok value

-- the line has no word, and `rest` is the text from its end on
pub record IsEndAt (text rest : List ℕ) : Type 0 where
  pub none : line_words text ≡ []
  pub line : rest ≡ after is_within_line text

-- the line has one word, an index of this value, and `rest` is the text from its end on
pub record IsLastIndex (text : List ℕ) (number : ℕ) (rest : List ℕ) : Type 0 where
  pub behind : List ℕ
  pub at : IsIndexAt text number behind
  pub line : IsEndAt behind rest

-- the text begins with digits of this value, and only blanks come between them and the line's end
pub record IsLastNumber (text : List ℕ) (number : ℕ) (rest : List ℕ) : Type 0 where
  pub behind : List ℕ
  pub read : IsNumberRead text number behind
  pub some : length behind ≢ length text
  pub word : ends_word behind ≡ true
  pub line : IsEndAt behind rest

-- the line consists of a row, a column and an integer
pub record IsIntegerLine (text : List ℕ) (row col : ℕ) (value : ℤ) (rest : List ℕ) : Type 0 where
  pub row_word : List ℕ
  pub col_word : List ℕ
  pub value_word : List ℕ
  pub words : line_words text ≡ row_word ∷ col_word ∷ value_word ∷ []
  pub row_index : is_index row_word ≡ true
  pub col_index : is_index col_word ≡ true
  pub integer : is_integer value_word ≡ true
  pub row_is : number_of row_word ≡ Ok row
  pub col_is : number_of col_word ≡ Ok col
  pub value_is : integer_of value_word ≡ Ok value
  pub after_line : rest ≡ after is_within_line text

-- the line consists of a row and a column
pub record IsPatternLine (text : List ℕ) (row col : ℕ) (rest : List ℕ) : Type 0 where
  pub row_word : List ℕ
  pub col_word : List ℕ
  pub words : line_words text ≡ row_word ∷ col_word ∷ []
  pub row_index : is_index row_word ≡ true
  pub col_index : is_index col_word ≡ true
  pub row_is : number_of row_word ≡ Ok row
  pub col_is : number_of col_word ≡ Ok col
  pub after_line : rest ≡ after is_within_line text

-- the line consists of an integer
pub record IsValueLine (text : List ℕ) (value : ℤ) (rest : List ℕ) : Type 0 where
  pub value_word : List ℕ
  pub words : line_words text ≡ value_word ∷ []
  pub integer : is_integer value_word ≡ true
  pub value_is : integer_of value_word ≡ Ok value
  pub after_line : rest ≡ after is_within_line text
