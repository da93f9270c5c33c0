-- What optional arguments give: flags and numbers.
use Rattle.std.specs.Prelude.{◌≡◌, ◌<◌, ◌^◌, ℕ, List, codes, Option, Some, None, Bool, true, false}
use Rattle.std.specs.Str.Parse.{digits_value, IsNumeral, without_leading_plus}
use Rattle.clap.specs.Matches.{one_text}
use Rattle.clap.specs.declared.parser.matches.Found.{Found}

-- the flag with this name is set, or not; it is not unless the arguments give it
pub record GivesFlag (words : Found) (name : List ℕ) (is : Bool) : Type 0 where
  pub none : one_text words name ≡ None → is ≡ false
  pub yes : one_text words name ≡ Some (codes "true") → is ≡ true
  pub no : one_text words name ≡ Some (codes "false") → is ≡ false

-- the text is a number that fits in this number of bits
abbrev pub IsNumber : ℕ → List ℕ → Type 0
IsNumber bits text = IsNumeral 10 (without_leading_plus text)
    × (digits_value 10 (without_leading_plus text) < 2 ^ bits)

-- this is the number that the text is, or the text is no number that fits in these bits
abbrev pub ReadsNumber : ℕ → List ℕ → Option ℕ → Type 0
ReadsNumber bits text (Some number) =
    IsNumber bits text × (number ≡ digits_value 10 (without_leading_plus text))
ReadsNumber bits text None = IsNumber bits text → ⊥

-- the number that the argument with this name is, if it fits in these bits; there is none unless the arguments give it
pub record GivesNumber (bits : ℕ) (words : Found) (name : List ℕ) (number : Option ℕ) : Type 0 where
  pub none : one_text words name ≡ None → number ≡ None
  pub some : (text : List ℕ) → one_text words name ≡ Some text → ReadsNumber bits text number
