-- Indices and integers are numbers.
use Rattle.std.proofs.Common.{◌≡◌, ℕ, ◌<◌, ◌||◌, Bool, true, false, List}
use Rattle.std.proofs.Common.{[], ◌∷◌, length, count_by, refl, sym, ap, ◌∙◌, arith}
use Rattle.std.specs.List.{list_all, list_any}
use Rattle.std.specs.Char.{is_ascii_digit}
use Rattle.std.specs.Str.Parse.{without_leading_sign}
use Rattle.std.proofs.lemmas.Bool.{ltb-true}
use Rattle.sparse_algebra.proofs.Cases.{and_parts}
use Rattle.sparse_parser.specs.Bytes.{is_point, leading, after}
use Rattle.sparse_parser.specs.InnerBytes.{is_unscaled}
use Rattle.sparse_parser.specs.Grammar.{is_index, is_integer, is_mantissa}
use Rattle.sparse_parser.specs.Grammar.{is_unsigned_number, is_number}
use Rattle.sparse_parser.proofs.LeadingBytes.{Passes, leading-append, after-append}
use Rattle.sparse_parser.proofs.ByteClasses.{digit_unscaled, digit_no_sign, digit_no_point}
use Rattle.sparse_parser.proofs.ByteClasses.{Passes-weaker}
use Rattle.std.proofs.lemmas.List.{append-nil}

-- an index is a nonempty run of digits
pub digits-of : (word : List ℕ) → is_index word ≡ true → (0 < length word)
    × Passes is_ascii_digit word
digits-of word e = let p = and_parts _ _ e in (ltb-true _ _ p.0, passes word p.1)
  where
    passes : (word : List ℕ) → list_all is_ascii_digit word ≡ true → Passes is_ascii_digit word
    passes [] h = tt
    passes (b ∷ word) h = let p = and_parts _ _ h in (p.0, passes word p.1)

all_unscaled : (word : List ℕ) → Passes is_ascii_digit word
    → list_all (λ b. is_ascii_digit b || is_point b) word ≡ true
all_unscaled [] h = refl
all_unscaled (b ∷ word) h = rw (h.0, all_unscaled word h.1) refl

no_points : (word : List ℕ) → Passes is_ascii_digit word → count_by is_point word ≡ 0
no_points [] h = refl
no_points (b ∷ word) h = rw (digit_no_point b h.0, no_points word h.1) refl

some_digit : (word : List ℕ) → 0 < length word → Passes is_ascii_digit word
    → list_any is_ascii_digit word ≡ true
some_digit [] lt h = absurd (omega arith)
some_digit (b ∷ word) lt h = rw (h.0) refl

digits-mantissa : (word : List ℕ) → 0 < length word → Passes is_ascii_digit word
    → is_mantissa word ≡ true
digits-mantissa word lt h = rw (all_unscaled word h, some_digit word lt h, no_points word h) refl

pub digits-number : (word : List ℕ) → is_index word ≡ true → is_unsigned_number word ≡ true
digits-number word e =
    let d = digits-of word e in
    let u = Passes-weaker is_ascii_digit is_unscaled word digit_unscaled d.1 in
    let f : leading is_unscaled word ≡ word = ap (leading is_unscaled) (sym (append-nil word))
    ∙ leading-append is_unscaled word [] u tt in
    let a : after is_unscaled word ≡ [] = ap (after is_unscaled) (sym (append-nil word))
    ∙ after-append is_unscaled word [] u tt in
    rw (f, a, digits-mantissa word d.0 d.1) refl

pub integer-number : (word : List ℕ) → is_integer word ≡ true → is_number word ≡ true
unfolding is_number
integer-number word e = digits-number (without_leading_sign word) e

-- an index has no sign
pub index-unsigned : (word : List ℕ) → is_index word ≡ true → without_leading_sign word ≡ word
index-unsigned [] e = refl
index-unsigned (b ∷ word) e = let d = digits-of (b ∷ word) e in let s =
    digit_no_sign b d.1.0 in rw (s.0, s.1) refl

pub index-integer : (word : List ℕ) → is_index word ≡ true → is_integer word ≡ true
index-integer word e = ap is_index (index-unsigned word e) ∙ e

pub index-number : (word : List ℕ) → is_index word ≡ true → is_number word ≡ true
index-number word e = integer-number word (index-integer word e)

-- a test that implies a failing test fails
pub false-before : (p q : Bool) → (p ≡ true → q ≡ true) → q ≡ false → p ≡ false
false-before true q f e = absurd (let g = f refl in cc)
false-before false q f e = refl
