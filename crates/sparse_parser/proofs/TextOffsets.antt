-- A text from an offset on, as a loop advances the offset.
use Rattle.std.proofs.Common.{◌≡◌, ℕ, ◌+◌, ◌-◌, ◌*◌, ◌^◌, ◌≤◌, ◌<◌, Bool, true, List, length}
use Rattle.std.proofs.Common.{get_or, drop, sym, ap, ◌∙◌, arith}
use Rattle.std.proofs.lemmas.List.{drop_more}
use Rattle.std.proofs.lemmas.Grind.{pow_more}
use Rattle.std.specs.Char.{is_ascii_digit}
use Rattle.std.specs.Str.Parse.{digits_value_after}
use Rattle.sparse_parser.specs.Bytes.{leading, after}
use Rattle.sparse_parser.proofs.LeadingBytes.{leading-yes, after-yes}
use Rattle.sparse_parser.proofs.Digits.{digit_value-digit}

-- advancing over a byte that passes leaves the text after the prefix unchanged
pub after_passed : (p : ℕ → Bool) (text : List ℕ) (i : ℕ) → i < length text
    → p (get_or text i 0) ≡ true → after p (drop (i + 1) text) ≡ after p (drop i text)
after_passed p text i lt e = sym (ap (after p) (drop_more text i 0 lt) ∙ after-yes p _ _ e)

-- advancing over a digit appends it to the number
pub digit_read : (n : ℕ) (text : List ℕ) (i : ℕ) → i < length text
    → is_ascii_digit (get_or text i 0) ≡ true
    → digits_value_after 10 (n * 10 + (get_or text i 0 - 48))
    (leading is_ascii_digit (drop (i + 1) text))
    ≡ digits_value_after 10 n (leading is_ascii_digit (drop i text))
digit_read n text i lt e =
    let d = ap (leading is_ascii_digit) (drop_more text i 0 lt)
    ∙ leading-yes is_ascii_digit (get_or text i 0) (drop (i + 1) text) e in
    ap (λ (v : ℕ). digits_value_after 10 (n * 10 + v) (leading is_ascii_digit (drop (i + 1) text)))
    (sym (digit_value-digit (get_or text i 0) e))
    ∙ sym (ap (digits_value_after 10 n) d)

-- the value of k + 1 digits is below 10 ^ (k + 1) if that of the first k is below 10 ^ k
pub digits_below : (n k d : ℕ) → n < 10 ^ k → d ≤ 9 → n * 10 + d < 10 ^ (k + 1)
digits_below n k d small digit = let p = pow_more 10 k in omega arith
