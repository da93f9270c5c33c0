-- The exact value of a decimal number.
use Rattle.std.specs.Prelude.{◌≡◌, ℕ, ℤ, pos, negsuc, suc, ◌+◌, ◌*◌, ◌^◌, ◌<◌, not, Option, Some, None}
use Rattle.std.specs.Prelude.{if◌then◌else◌, List, length, drop, filter}
use Rattle.std.specs.Char.{is_ascii_digit}
use Rattle.std.specs.Int.{w128}
use Rattle.std.specs.Int.RustNames.{FitsSigned}
use Rattle.std.specs.Str.Parse.{digits_value, signed_digits_value, starts_with_minus}
use Rattle.std.specs.Str.Parse.{without_leading_sign}
use lib.IntN.{neg_ℤ}
use Rattle.sparse_parser.specs.Bytes.{is_exponent_letter, is_point, leading, after}
use Rattle.mtxkit_matrices.specs.declared.decimals.number.Misfit.{Misfit}
use Rattle.mtxkit_matrices.specs.declared.decimals.number.Misfit.TheVariants.{Fraction, Range}

-- ---- the parts of a number

-- the digits and the point, without a sign
abbrev pub mantissa_of : List ℕ → List ℕ
mantissa_of word = leading (λ b. not (is_exponent_letter b)) (without_leading_sign word)

-- the letter and the exponent, or nothing
abbrev pub exponent_of : List ℕ → List ℕ
exponent_of word = after (λ b. not (is_exponent_letter b)) (without_leading_sign word)

-- the number that the digits give without the point
abbrev pub number_of_digits : List ℕ → ℕ
number_of_digits mantissa = digits_value 10 (filter is_ascii_digit mantissa)

-- the number of digits after the point
abbrev pub places_behind : List ℕ → ℕ
places_behind mantissa = length (drop 1 (after (λ b. not (is_point b)) mantissa))

-- the exponent of ten, which is 0 if none is given
abbrev pub power_of : List ℕ → ℤ
power_of exponent = signed_digits_value 10 (drop 1 exponent)

-- ---- an exponent as two natural numbers, one of which is 0

abbrev pub above_zero : ℤ → ℕ
above_zero (pos n) = n
above_zero (negsuc n) = 0

abbrev pub below_zero : ℤ → ℕ
below_zero (pos n) = 0
below_zero (negsuc n) = suc n

-- ---- values

-- z is the value of the word times 10 ^ scale
pub record IsScaled (scale : ℕ) (word : List ℕ) (z : ℤ) : Type 0 where
  pub magnitude : ℕ
  pub sign : z ≡ (if starts_with_minus word then neg_ℤ (pos magnitude) else pos magnitude)
  pub value : magnitude
      * 10 ^ (places_behind (mantissa_of word) + below_zero (power_of (exponent_of word)))
      ≡ number_of_digits (mantissa_of word)
      * 10 ^ (scale + above_zero (power_of (exponent_of word)))

-- the least scale at which the value is an integer, or none below 2 ^ 32 if there is none
abbrev pub IsLeastScale : List ℕ → Option ℕ → Type 0
IsLeastScale word (Some least) = ((z : ℤ) × IsScaled least word z)
    × ((scale : ℕ) → scale < least → (z : ℤ) → IsScaled scale word z → ⊥)
IsLeastScale word None = (scale : ℕ) → scale < 2 ^ 32 → (z : ℤ) → IsScaled scale word z → ⊥

-- the scaled value is not an integer, but one at this least scale; or it is an integer that does not
-- fit in 128 bits
abbrev pub IsMisfit : Misfit → ℕ → List ℕ → Type 0
IsMisfit (Fraction least) scale word =
    ((z : ℤ) → IsScaled scale word z → ⊥) × IsLeastScale word least
IsMisfit Range scale word = (z : ℤ) × IsScaled scale word z × (FitsSigned w128 z → ⊥)
