-- The digits of a mantissa, as the loop of `read_digits` reads them.
use Rattle.std.specs.Prelude.{◌≡◌, ℕ, ◌*◌, ◌^◌, ◌<◌, ◌≤◌, Option, List, drop, filter}
use Rattle.std.specs.Option.{SomeIff}
use Rattle.std.specs.Char.{is_ascii_digit}
use Rattle.std.specs.Str.Parse.{digits_value, digits_value_after}

-- total is value * 10 ^ zeros, where the value does not end in 0; `part` is the value if that fits in
-- 128 bits
pub record IsTrimmed (total : ℕ) (part : Option ℕ) (zeros : ℕ) : Type 0 where
  pub value : ℕ
  pub whole : value * 10 ^ zeros ≡ total
  pub trimmed : (tenth : ℕ) → value ≡ tenth * 10 → value ≡ 0
  pub known : SomeIff part (value < 2 ^ 128) value

-- part and zeros are those of the digits among the first i bytes
pub record AreRead (text : List ℕ) (i : ℕ) (part : Option ℕ) (zeros : ℕ) : Type 0 where
  pub total : ℕ
  pub rest : digits_value_after 10 total (filter is_ascii_digit (drop i text))
      ≡ digits_value 10 (filter is_ascii_digit text)
  pub state : IsTrimmed total part zeros
  pub few : zeros ≤ i
