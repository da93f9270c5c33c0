-- Classes of bytes that the scanning functions test.
use Rattle.std.specs.Prelude.{◌≡◌, ◌≢◌, ℕ, ◌<◌, Bool, false, ◌||◌, not, List, [], ◌∷◌}
use Rattle.sparse_parser.specs.Bytes.{is_blank, is_line_end, is_exponent_letter}

abbrev pub is_space : ℕ → Bool
is_space b = is_blank b || is_line_end b

abbrev pub is_within_line : ℕ → Bool
is_within_line b = not (is_line_end b)

abbrev pub is_within_word : ℕ → Bool
is_within_word b = not (is_blank b)

-- neither a blank nor a line end
abbrev pub is_solid : ℕ → Bool
is_solid b = not (is_space b)

-- a byte that does not begin an exponent
abbrev pub is_unscaled : ℕ → Bool
is_unscaled b = not (is_exponent_letter b)

-- the answer of the function for each byte is that of the test p
abbrev pub Decides : (ℕ → Bool → Type 0) → (ℕ → Bool) → Type 0
Decides answers p = (b : ℕ) (answer : Bool) → b < 256 → answers b answer → answer ≡ p b

-- the text is empty, or begins with the first word of a line that is not a comment
abbrev pub BeginsLine : List ℕ → Type 0
BeginsLine [] = Unit {0}
BeginsLine (b ∷ text) = (is_space b ≡ false) × (b ≢ 37)
