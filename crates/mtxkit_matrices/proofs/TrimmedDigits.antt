-- The digits of a mantissa, read one by one: a part that does not end in 0, followed by zeros.
use Rattle.std.proofs.Common.{◌≡◌, ◌≢◌, ℕ, ◌+◌, ◌-◌, ◌*◌, ◌^◌, ◌≤◌, ◌<◌, true, false, List, length}
use Rattle.std.proofs.Common.{get_or, drop, Option, Some, None, refl, sym, ap, ◌∙◌, arith}
use Rattle.std.specs.Prelude.{filter}
use Rattle.std.specs.Option.{SomeIff}
use Rattle.std.specs.Char.{is_ascii_digit}
use Rattle.std.specs.Str.Parse.{digits_value_after}
use Rattle.std.proofs.lemmas.Bool.Decides.{nat_tests}
use Rattle.std.proofs.lemmas.List.{drop_more}
use Rattle.std.proofs.lemmas.Grind.{pow_more}
use Rattle.std.proofs.Math.Nat.{pow-le-pow_right, mul-le-mul_left, mul_assoc}
use Rattle.sparse_parser.proofs.Digits.{digit_value-digit, digit_small}
use Rattle.mtxkit_matrices.specs.InnerDigits.{AreRead}

-- a number followed by one more zero
more_zeros : (n k total : ℕ) → n * 10 ^ k ≡ total → n * 10 ^ (k + 1) ≡ total * 10
more_zeros n k total e = rw (pow_more 10 k, ← mul_assoc n (10 ^ k) 10, e) refl

-- ---- after one more byte

pub read_none : (text : List ℕ) → AreRead text 0 (Some 0) 0
read_none text = record {
  total = 0;
  rest = refl;
  state = record {
    value = 0;
    whole = refl;
    trimmed = λ tenth e. refl;
    known = (omega arith, refl);
  };
  few = omega arith;
}

module _ {text : List ℕ} {i : ℕ} {part : Option ℕ} {zeros : ℕ} (h : AreRead text i part zeros)
    (lt : i < length text) where
  digit_left : (n : ℕ) → is_ascii_digit (get_or text i 0) ≡ true
      → digits_value_after 10 (n * 10 + (get_or text i 0 - 48))
      (filter is_ascii_digit (drop (i + 1) text))
      ≡ digits_value_after 10 n (filter is_ascii_digit (drop i text))
  digit_left n e = rw (drop_more text i 0 lt, e, ← digit_value-digit (get_or text i 0) e) refl

  pub read_zero : get_or text i 0 ≡ 48 → AreRead text (i + 1) part (zeros + 1)
  read_zero e =
      let s = h.state in
      let m = more_zeros s.value zeros h.total s.whole in
      let f = h.few in
      record {
        total = h.total * 10 + (get_or text i 0 - 48);
        rest = digit_left h.total (ap is_ascii_digit e) ∙ h.rest;
        state = record {
          value = s.value;
          whole = omega arith;
          trimmed = s.trimmed;
          known = s.known;
        };
        few = omega arith;
      }

  pub read_digit : {next : Option ℕ} → is_ascii_digit (get_or text i 0) ≡ true
      → get_or text i 0 ≢ 48
      → SomeIff next (h.state.value * 10 ^ (zeros + 1) + (get_or text i 0 - 48) < 2 ^ 128)
      (h.state.value * 10 ^ (zeros + 1) + (get_or text i 0 - 48))
      → AreRead text (i + 1) next 0
  read_digit e n k =
      let s = h.state in
      let m = more_zeros s.value zeros h.total s.whole in
      let d = digit_small (get_or text i 0) e in
      let some : 0 < get_or text i 0 - 48 = some_digit (get_or text i 0) e n in
      record {
        total = h.total * 10 + (get_or text i 0 - 48);
        rest = digit_left h.total e ∙ h.rest;
        state = record {
          value = s.value * 10 ^ (zeros + 1) + (get_or text i 0 - 48);
          whole = omega arith;
          trimmed = λ tenth f. absurd (omega arith);
          known = k;
        };
        few = omega arith;
      }
    where
      some_digit : (b : ℕ) → is_ascii_digit b ≡ true → b ≢ 48 → 0 < b - 48
      some_digit b e n = grind (arith, nat_tests)

  pub read_other : is_ascii_digit (get_or text i 0) ≡ false → AreRead text (i + 1) part zeros
  read_other e =
      let f = h.few in
      let same : filter is_ascii_digit (drop (i + 1) text) ≡ filter is_ascii_digit (drop i text) =
      rw (drop_more text i 0 lt, e) refl in
      record {
        total = h.total;
        rest = ap (digits_value_after 10 h.total) same ∙ h.rest;
        state = h.state;
        few = omega arith;
      }

-- ---- parts followed by zeros

pub raised_next : (n k total : ℕ) → total ≡ n * 10 ^ k → total * 10 ≡ n * 10 ^ (k + 1)
raised_next n k total e = sym (more_zeros n k total (sym e))

pub raised_more : (n k most total : ℕ) → k + 1 ≤ most → total ≡ n * 10 ^ k
    → ¬ (total * 10 < 2 ^ 128) → ¬ (n * 10 ^ most < 2 ^ 128)
raised_more n k most total le e large small =
    let more = mul-le-mul_left n
    (pow-le-pow_right {n = 10} (omega arith) {i = k + 1} {j = most} le) in
    let same = raised_next n k total e in
    large (omega arith)

pub none_more : (value k digit : ℕ) → ¬ (value < 2 ^ 128)
    → ¬ (value * 10 ^ k + digit < 2 ^ 128)
none_more value k digit large small =
    let m = mul-le-mul_left value
    (pow-le-pow_right {n = 10} (omega arith) {i = 0} {j = k} (omega arith)) in
    large (omega arith)

pub is_none : {T : Type 0} (o : Option T) (P : Type 0) (v : T) → o ≡ None → ¬ P → SomeIff o P v
is_none o P v e n = rw e n
