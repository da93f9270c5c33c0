-- The value of a decimal number from its magnitude and sign.
use Rattle.std.proofs.Common.{◌≡◌, ℕ, ℤ, zero, suc, ◌+◌, ◌^◌, ◌<◌, ◌≤◌, Bool, true, false, not}
use Rattle.std.proofs.Common.{Option, Some, None, List, Result, Ok, Err, length, length-drop, refl}
use Rattle.std.proofs.Common.{arith}
use Rattle.std.specs.Prelude.{IfOk, IfErr, MatchResult, FitsSigned}
use Rattle.std.specs.Int.{w128}
use Rattle.std.specs.Option.{SomeIff}
use Rattle.std.specs.Str.Parse.{starts_with_minus}
use Rattle.std.proofs.lemmas.Result.{IfOk-at_ok, IfErr-at_err}
use Rattle.sparse_algebra.proofs.Cases.{and_parts}
use Rattle.sparse_parser.specs.Bytes.{after, is_point}
use Rattle.sparse_parser.specs.Grammar.{is_number, is_exponent}
use Rattle.sparse_parser.proofs.LeadingBytes.{length-after}
use Rattle.mtxkit_matrices.specs.declared.decimals.number.Misfit.{Misfit}
use Rattle.mtxkit_matrices.specs.declared.decimals.number.Misfit.TheVariants.{Fraction, Range}
use Rattle.mtxkit_matrices.specs.Decimals.{IsScaled, IsLeastScale, IsMisfit}
use Rattle.mtxkit_matrices.specs.Decimals.{mantissa_of, exponent_of, power_of}
use Rattle.mtxkit_matrices.specs.Decimals.{number_of_digits, places_behind, above_zero, below_zero}
use Rattle.mtxkit_matrices.specs.InnerDigits.{IsTrimmed}
use Rattle.mtxkit_matrices.specs.InnerPowers.{HasPower, IsMagnitude, HasLeastScale}
use Rattle.mtxkit_matrices.specs.InnerPowers.{HasNoMagnitude}
use Rattle.mtxkit_matrices.specs.InnerPowers.{signed, up, down}

pub places_few : (mantissa : List ℕ) → places_behind mantissa ≤ length mantissa
places_few mantissa =
    let rest = after (λ b. not (is_point b)) mantissa in
    let d = length-drop 1 rest in
    let l = length-after (λ b. not (is_point b)) mantissa in
    omega arith

pub number_exponent : (word : List ℕ) → is_number word ≡ true → is_exponent (exponent_of word) ≡ true
unfolding is_number
number_exponent word e = (and_parts _ _ e).1

below-signed : (negative : Bool) (n : ℕ) → below_zero (signed negative n) ≡ down negative n
below-signed true zero = refl
below-signed true (suc n) = refl
below-signed false n = refl

above-signed : (negative : Bool) (n : ℕ) → above_zero (signed negative n) ≡ up negative n
above-signed true zero = refl
above-signed true (suc n) = refl
above-signed false n = refl

fits_unsigned : (negative : Bool) (m : ℕ) → FitsSigned w128 (signed negative m) → m < 2 ^ 128
fits_unsigned true zero f = omega arith
fits_unsigned true (suc m) f = let s = f.sfits in omega arith
fits_unsigned false m f = let s = f.sfits in omega arith

-- the parts of a word, and the magnitude that was computed of these
pub record IsFound (scale : ℕ) (word mantissa exponent : List ℕ) (behind : ℕ) (negative : Bool)
    (size part : Option ℕ) (zeros : ℕ) (r : Result ℕ Misfit) : Type 0 where
  pub mantissa_is : mantissa ≡ mantissa_of word
  pub exponent_is : exponent ≡ exponent_of word
  pub behind_is : behind ≡ places_behind mantissa
  pub power : HasPower exponent negative size
  pub digits : IsTrimmed (number_of_digits mantissa) part zeros
  pub value : (total n : ℕ) → IsTrimmed total part zeros → SomeIff size (n < 2 ^ 64) n
      → IfOk r (IsMagnitude total behind scale negative n)
  pub refused : (total n : ℕ) → IsTrimmed total part zeros → SomeIff size (n < 2 ^ 64) n
      → IfErr r (λ why. HasNoMagnitude why total behind scale negative n)

module _ {scale : ℕ} {word mantissa exponent : List ℕ} {behind : ℕ} {negative : Bool}
    {size part : Option ℕ} {zeros : ℕ} {r : Result ℕ Misfit}
    (f : IsFound scale word mantissa exponent behind negative size part zeros r) where
  abbrev IsOf : ℕ → Type 0
  IsOf m = IsMagnitude (number_of_digits mantissa) behind scale negative f.power.magnitude m

  -- the number of places that the value loses, by the parts of the word
  loss : places_behind (mantissa_of word) + below_zero (power_of (exponent_of word))
      ≡ behind + down negative f.power.magnitude
  loss = rw (← f.mantissa_is, ← f.exponent_is, ← f.behind_is, f.power.power, below-signed) refl

  -- the number of places that it gains at another scale
  gain : (k : ℕ) → k + above_zero (power_of (exponent_of word)) ≡ k + up negative f.power.magnitude
  gain k = rw (← f.exponent_is, f.power.power, above-signed) refl

  abbrev IsAt : ℕ → ℕ → Type 0
  IsAt k m = IsMagnitude (number_of_digits mantissa) behind k negative f.power.magnitude m

  scaled_at : (k m : ℕ) (z : ℤ) → IsAt k m → z ≡ signed (starts_with_minus word) m
      → IsScaled k word z
  scaled_at k m z h e =
      record { magnitude = m; sign = e; value = rw (loss, gain k, ← f.mantissa_is) h }

  magnitude_at : (k : ℕ) (z : ℤ) (s : IsScaled k word z) → IsAt k s.magnitude
  magnitude_at k z s = rw (loss, gain k, ← f.mantissa_is) at s.value

  scaled_from : (m : ℕ) (z : ℤ) → IsOf m → z ≡ signed (starts_with_minus word) m
      → IsScaled scale word z
  scaled_from m z h e = scaled_at scale m z h e

  least_scaled : (least : Option ℕ)
      → HasLeastScale (number_of_digits mantissa) behind negative f.power.magnitude least
      → IsLeastScale word least
  least_scaled (Some least) h = (
    (signed (starts_with_minus word) h.0.0, scaled_at least h.0.0 _ h.0.1 refl),
    λ k lt z s. h.1 k lt s.magnitude (magnitude_at k z s),
  )
  least_scaled None h = λ k lt z s. h k lt s.magnitude (magnitude_at k z s)

  none_scaled : (why : Misfit)
      → HasNoMagnitude why (number_of_digits mantissa) behind scale negative f.power.magnitude
      → IsMisfit why scale word
  none_scaled (Fraction least) h =
      (λ z s. h.0 s.magnitude (magnitude_at scale z s), least_scaled least h.1)
  none_scaled Range (m, h, large) = (
    signed (starts_with_minus word) m,
    scaled_from m _ h refl,
    λ fits. large (fits_unsigned (starts_with_minus word) m fits),
  )

  module _ {m : ℕ} (e : r ≡ Ok m) {minus : Bool} (s : minus ≡ starts_with_minus word) where
    value_is : IsScaled scale word (signed minus m)
    value_is = scaled_from m _ (IfOk-at_ok IsOf e
        (f.value _ f.power.magnitude f.digits f.power.known)) (rw s refl)

    pub ok_value : (result : Result ℤ Misfit)
        → MatchResult result (λ z. z ≡ signed minus m)
        (λ why. (why ≡ Range) × (FitsSigned w128 (signed minus m) → ⊥))
        → IfOk result (IsScaled scale word)
    ok_value (Ok z) h = rw h value_is
    ok_value (Err why) h = tt

    pub ok_refused : (result : Result ℤ Misfit)
        → MatchResult result (λ z. z ≡ signed minus m)
        (λ why. (why ≡ Range) × (FitsSigned w128 (signed minus m) → ⊥))
        → IfErr result (λ why. IsMisfit why scale word)
    ok_refused (Ok z) h = tt
    ok_refused (Err why) h = rw h.0 (signed minus m, value_is, h.1)

  pub err_refused : {why : Misfit} → r ≡ Err why → IsMisfit why scale word
  err_refused {why} e = none_scaled why (IfErr-at_err _ e
      (f.refused _ f.power.magnitude f.digits f.power.known))
