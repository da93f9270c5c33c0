-- A data line as a list of numbers.
use Rattle.std.specs.Prelude.{◌≡◌, ℕ, ◌<◌, ◌^◌, Bool, true, false, List, [], ◌∷◌, Option}
use Rattle.std.specs.Prelude.{IsTrue}
use Rattle.std.specs.Option.{SomeIff}
use Rattle.std.specs.Str.Parse.{digits_value, without_leading_sign}
use Rattle.sparse_parser.specs.declared.data_lines.NumberKind.{NumberKind}
use Rattle.sparse_parser.specs.declared.data_lines.NumberKind.TheVariants.{Index, Signed, Other}
use Rattle.sparse_parser.specs.declared.data_lines.Number.{Number}
use Rattle.sparse_parser.specs.declared.data_lines.Found.{Found}
use Rattle.sparse_parser.specs.declared.data_lines.Found.TheVariants as found
use Rattle.sparse_parser.specs.declared.data_lines.Line.{Line}
use Rattle.sparse_parser.specs.declared.data_lines.Line.TheVariants.{One, Two, Three, Four}
use Rattle.sparse_parser.specs.Bytes.{after}
use Rattle.sparse_parser.specs.InnerBytes.{is_within_line, is_space}
use Rattle.sparse_parser.specs.Grammar.{is_index, is_integer, is_number, is_entry}
use Rattle.sparse_parser.specs.InnerReading.{line_words}

abbrev pub is_plain : NumberKind → Bool
is_plain Index = true
is_plain Signed = false
is_plain Other = false

abbrev pub is_whole : NumberKind → Bool
is_whole Index = true
is_whole Signed = true
is_whole Other = false

-- the value of an integer's digits, or `None` if it does not fit in 64 bits
abbrev pub IsDigitsValue : List ℕ → Option ℕ → Type 0
IsDigitsValue word n = SomeIff n (digits_value 10 (without_leading_sign word) < 2 ^ 64)
    (digits_value 10 (without_leading_sign word))

-- a number of this kind, and the value of its digits
pub record IsNumberOf (word : List ℕ) (digits : Option ℕ) (kind : NumberKind) : Type 0 where
  pub number : is_number word ≡ true
  pub index : is_index word ≡ is_plain kind
  pub integer : is_integer word ≡ is_whole kind
  pub digits_are : IsTrue (is_whole kind) → IsDigitsValue word digits

abbrev pub IsNumber : Number → Type 0
IsNumber n = IsNumberOf n.word.now n.digits n.kind

-- the first word of a line, and the text after it
pub record IsWord (text word rest : List ℕ) : Type 0 where
  pub words : line_words text ≡ word ∷ line_words rest
  pub line : after is_within_line rest ≡ after is_within_line text

-- what the first word of a line is: a number, the line's end, or no number
abbrev pub IsFound : List ℕ → Found → Type 0
IsFound text (found.Number n rest) = IsNumber n × IsWord text n.word.now rest.now
IsFound text (found.End rest) = (line_words text ≡ []) × (rest.now ≡ after is_within_line text)
IsFound text found.Fault = (word : List ℕ) × (words : List (List ℕ))
    × (line_words text ≡ word ∷ words) × (is_number word ≡ false)

abbrev pub words_in : Line → List (List ℕ)
words_in (One a) = a.word.now ∷ []
words_in (Two a b) = a.word.now ∷ b.word.now ∷ []
words_in (Three a b c) = a.word.now ∷ b.word.now ∷ c.word.now ∷ []
words_in (Four a b c d) = a.word.now ∷ b.word.now ∷ c.word.now ∷ d.word.now ∷ []

-- each is a number; of three or four numbers the first two are indices
abbrev pub AreNumbers : Line → Type 0
AreNumbers (One a) = IsNumber a
AreNumbers (Two a b) = IsNumber a × IsNumber b
AreNumbers (Three a b c) = IsNumber a × IsNumber b × IsNumber c × (is_plain a.kind ≡ true)
    × (is_plain b.kind ≡ true)
AreNumbers (Four a b c d) = IsNumber a × IsNumber b × IsNumber c × IsNumber d
    × (is_plain a.kind ≡ true) × (is_plain b.kind ≡ true)

-- the first line of a text is this data line, and this is the text from its end on
pub record IsLine (text : List ℕ) (line : Line) (rest : List ℕ) : Type 0 where
  pub words : line_words text ≡ words_in line
  pub is : is_entry (words_in line) ≡ true
  pub numbers : AreNumbers line
  pub after_line : rest ≡ after is_within_line text

-- a word is followed by the end of the text or by a blank or a line end
abbrev pub ends_word : List ℕ → Bool
ends_word [] = true
ends_word (b ∷ text) = is_space b

-- the text begins with a word
abbrev pub StartsWord : List ℕ → Type 0
StartsWord [] = ⊥
StartsWord (b ∷ text) = is_space b ≡ false
