-- The value of the leading digits of a text, as a loop reads them.
use Rattle.std.specs.Prelude.{◌≡◌, ℕ, ◌+◌, ◌<◌, ◌≤◌, ◌^◌, ◌⊎◌, List, [], length}
use Rattle.std.specs.Char.{is_ascii_digit}
use Rattle.std.specs.Str.Parse.{digits_value, digits_value_after}
use Rattle.sparse_parser.specs.Bytes.{leading, after}

-- the number is the value of the leading digits of the text up to `rest`
pub record IsNumberRead (text : List ℕ) (number : ℕ) (rest : List ℕ) : Type 0 where
  pub value : digits_value_after 10 number (leading is_ascii_digit rest) ≡ digits_value 10
      (leading is_ascii_digit text)
  pub others : after is_ascii_digit rest ≡ after is_ascii_digit text
  pub small : number < 2 ^ 64
  pub shorter : length rest ≤ length text

-- no digit is left, or 19 bytes were read
abbrev pub HasStopped : List ℕ → List ℕ → Type 0
HasStopped text rest = (leading is_ascii_digit rest ≡ []) ⊎ (length text ≡ length rest + 19)
