-- The value of digits, which are read one by one.
use Rattle.std.proofs.Common.{◌≡◌, ℕ, ◌+◌, ◌-◌, ◌*◌, ◌^◌, ◌≤◌, ◌<◌, min, Bool, true, false, cond}
use Rattle.std.proofs.Common.{ltb, eqb, inl, inr, length-drop, List, [], ◌∷◌, length, get_or, drop}
use Rattle.std.proofs.Common.{Result, Ok, Err, Option, refl, sym, ap, subst, ◌∙◌, arith, rules}
use Rattle.std.specs.List.{list_all}
use Rattle.std.specs.Option.{SomeIff}
use Rattle.std.specs.Result.{OkIff, result_ok, MatchResult, IsOk}
use Rattle.std.proofs.lemmas.Result.{MatchResult-at_ok}
use denote.Ref.{Bor}
use Rattle.std.specs.Str.{IsAscii, IsUtf8}
use Rattle.std.specs.Str.Parse.{IsNumeral, digits_value, without_leading_sign}
use Rattle.std.proofs.lemmas.Str.Parse.{IsNumeralModel, numerals_by_value}
use Rattle.std.proofs.lemmas.Str.Ascii.{IsAscii-cons}
use Rattle.std.proofs.lemmas.Str.{IsUtf8-from_ascii}
use Rattle.std.proofs.lemmas.Fmt.{IsAscii-from_digits}
use Rattle.std.proofs.lemmas.Bool.{ltb-true, ltb-false, eqb-true}
use Rattle.sparse_algebra.proofs.Cases.{and_parts}
use Rattle.sparse_parser.specs.Grammar.{is_index, is_integer}
use Rattle.std.specs.Char.{is_ascii_digit, digit_value}
use Rattle.std.specs.Str.Parse.{digits_value_after}
use Rattle.std.proofs.lemmas.List.{drop_more}
use Rattle.std.proofs.lemmas.Bool.Decides.{nat_tests}
use Rattle.std.proofs.lemmas.Grind.{pow_more}
use Rattle.std.proofs.Math.Nat.{pow-le-pow_right}
use Rattle.sparse_parser.specs.Bytes.{leading}
use Rattle.sparse_parser.specs.InnerNumbers.{HasStopped}
use Rattle.sparse_parser.proofs.LeadingBytes.{leading-yes, leading-drop_all, list_all-leading}

-- all bytes of an index are digits, so its value is that of its leading digits
pub index_number : (word : List ℕ) (n : Option ℕ) → is_index word ≡ true
    → SomeIff n (digits_value 10 (leading is_ascii_digit word) < 2 ^ 64)
    (digits_value 10 (leading is_ascii_digit word))
    → SomeIff n (digits_value 10 word < 2 ^ 64) (digits_value 10 word)
index_number word n i h =
    subst (λ (ds : List ℕ). SomeIff n (digits_value 10 ds < 2 ^ 64) (digits_value 10 ds))
    (list_all-leading is_ascii_digit word (and_parts _ _ i).1) h

-- appending digits does not lessen the value
pub digits_value_after-ge : (n : ℕ) (digits : List ℕ) → n ≤ digits_value_after 10 n digits
digits_value_after-ge n [] = omega arith
digits_value_after-ge n (c ∷ digits) = let h = digits_value_after-ge (n * 10 + digit_value c)
    digits in omega arith

pub digit_value-digit : (c : ℕ) → is_ascii_digit c ≡ true → digit_value c ≡ c - 48
digit_value-digit c e = grind (arith, nat_tests)

-- the value exceeds 64 bits where a digit does not fit any more
pub too_long : (n : ℕ) (text : List ℕ) (i total : ℕ) → i < length text
    → is_ascii_digit (get_or text i 0) ≡ true → ¬ (n * 10 + (get_or text i 0 - 48) < 2 ^ 64)
    → digits_value_after 10 n (leading is_ascii_digit (drop i text)) ≡ total → ¬ (total < 2 ^ 64)
too_long n text i total lt e large same small =
    let d = ap (leading is_ascii_digit) (drop_more text i 0 lt)
    ∙ leading-yes is_ascii_digit (get_or text i 0) (drop (i + 1) text) e in
    let v : digits_value_after 10 (n * 10 + digit_value (get_or text i 0))
    (leading is_ascii_digit (drop (i + 1) text)) ≡ total = sym (ap (digits_value_after 10 n) d)
    ∙ same in
    let g = digits_value_after-ge (n * 10 + digit_value (get_or text i 0))
    (leading is_ascii_digit (drop (i + 1) text)) in
    let f = digit_value-digit (get_or text i 0) e in
    large (omega arith)

-- the value is that of the digits read where no digit is left
pub fits_all : (n : ℕ) (text : List ℕ) (i total : ℕ) → leading is_ascii_digit (drop i text) ≡ []
    → n < 2 ^ 64 → digits_value_after 10 n (leading is_ascii_digit (drop i text)) ≡ total
    → (total < 2 ^ 64) × (n ≡ total)
fits_all n text i total e fits same =
    let v : n ≡ total = sym (ap (digits_value_after 10 n) e) ∙ same in
    (omega arith, v)

-- ---- words of digits, as `parse` reads them

own : IsNumeralModel (λ ds. list_all is_ascii_digit ds ≡ true) (digits_value 10)
own = numerals_by_value _ (search rules)

pub index-parts : (word : List ℕ) → is_index word ≡ true
    → (0 < length word) × (list_all is_ascii_digit word ≡ true)
index-parts word e = let p = and_parts _ _ e in (ltb-true _ _ p.0, p.1)

pub index-IsNumeral : (word : List ℕ) → is_index word ≡ true → IsNumeral 10 word
index-IsNumeral word e = let p = index-parts word e in (p.0, own.to word p.1)

integer-IsAscii-by : (c : ℕ) (cs : List ℕ) (minus plus : Bool) → eqb c 45 ≡ minus → eqb c 43 ≡ plus
    → IsAscii (cond minus cs (drop (cond plus 1 0) (c ∷ cs))) → IsAscii (c ∷ cs)
integer-IsAscii-by c cs true plus m p h = IsAscii-cons c cs (omega (arith, eqb-true _ _ m)) h
integer-IsAscii-by c cs false true m p h = IsAscii-cons c cs (omega (arith, eqb-true _ _ p)) h
integer-IsAscii-by c cs false false m p h = h

integer-IsAscii : (word : List ℕ) → IsAscii (without_leading_sign word) → IsAscii word
integer-IsAscii [] h = h
integer-IsAscii (c ∷ cs) h = integer-IsAscii-by c cs (eqb c 45) (eqb c 43) refl refl h

pub integer-IsUtf8 : (word : List ℕ) → is_integer word ≡ true → IsUtf8 word
integer-IsUtf8 word e = IsUtf8-from_ascii word
    (integer-IsAscii word (IsAscii-from_digits _ (index-IsNumeral _ e).1))

-- where P holds, `ok` of the result is `Some` exactly if Q holds
pub some_iff : {T E : Type 0} (r : Result T E) (P Q : Type 0) (v : T) → OkIff r (P × Q) v → P
    → SomeIff (result_ok r) Q v
some_iff (Ok x) P Q v h p = (h.0.1, h.1)
some_iff (Err e) P Q v h p = λ q. h (p, q)

-- the text that `from_utf8` returns is that of the bytes
pub text_is : {E : Type 0} (bytes : List ℕ) (r : Result (Bor (List ℕ)) E) (s : Bor (List ℕ))
    (Q : E → Type 0)
    → r ≡ Ok s → MatchResult r (λ t. (t.now ≡ bytes) × IsUtf8 bytes) Q → s.now ≡ bytes
text_is bytes r s Q e h = (MatchResult-at_ok (λ t. (t.now ≡ bytes) × IsUtf8 bytes) Q s e h).0

pub no_fault : {T E : Type 0} (P : Type 0) (r : Result T E) (Good : T → Type 0) (Bad : E → Type 0)
    → P → MatchResult r Good (λ e. (¬ P) × Bad e) → IsOk r
no_fault P (Ok x) Good Bad p h = refl
no_fault P (Err e) Good Bad p h = absurd (h.0 p)

pub digit_small : (c : ℕ) → is_ascii_digit c ≡ true → c - 48 ≤ 9
digit_small c e = grind (arith, nat_tests)

-- the value of at most 19 digits fits in 64 bits
pub short_fits : (n k d : ℕ) → n < 10 ^ k → k < 19 → d ≤ 9 → n * 10 + d < 2 ^ 64
short_fits n k d small short digit =
    let next : 10 ^ (k + 1) ≤ 10 ^ 19 = pow-le-pow_right {n = 10} (omega arith) {i = k + 1} {j = 19}
    (omega arith) in
    let more : 10 ^ (k + 1) ≡ 10 ^ k * 10 = pow_more 10 k in
    omega arith

-- 19 bytes were read, or no digit is left at the end of the text
pub stopped_end : (text : List ℕ) (from at end : ℕ) → from ≤ length text
    → end ≡ from + min (length text - from) 19 → end ≤ at → at ≤ end
    → HasStopped (drop from text) (drop at text)
stopped_end text from at end inside e ge le = by (ltb at (length text)) refl
  where
    by : (t : Bool) → ltb at (length text) ≡ t → HasStopped (drop from text) (drop at text)
    by true f = inr (omega (arith, length-drop at text, length-drop from text, ltb-true _ _ f))
    by false f = inl (leading-drop_all is_ascii_digit text at (ltb-false _ _ f))
