-- The decimal text of an integer is read back as that integer.
use Rattle.std.proofs.Common.{◌≡◌, ℕ, ℤ, pos, negsuc, suc, ◌^◌, ◌<◌, ◌≤◌, Bool, true, false, cond}
use Rattle.std.proofs.Common.{List, [], ◌∷◌, length, Ok, Err, refl, ap, ◌∙◌, arith, rules}
use Rattle.std.specs.Prelude.{FitsSigned}
use Rattle.std.specs.Int.{Width, w8, w16, w32, w64, w128}
use Rattle.std.specs.List.{list_all}
use Rattle.std.specs.Char.{is_ascii_digit}
use Rattle.std.specs.Fmt.{decimal, signed_decimal}
use Rattle.std.specs.Str.Parse.{digits_value, signed_digits_value}
use Rattle.std.proofs.lemmas.Bool.{lt-ltb}
use Rattle.std.proofs.lemmas.Fmt.{decimal_is_IsNumeral_wide}
use Rattle.std.proofs.lemmas.Str.Parse.{IsNumeralModel, numerals_by_value}
use Rattle.std.proofs.Math.Nat.{pow-le-pow_right}
use mir.Val.{hbits}
use Rattle.sparse_parser.specs.declared.error.MatrixMarketErrorKind.TheVariants.{TypeMismatch}
use Rattle.sparse_parser.specs.Grammar.{is_index, is_integer}
use Rattle.sparse_parser.specs.Reads.{Read, OnlyMismatch}
use Rattle.sparse_parser.specs.Scalars.{fits, IsNumberText}
use Rattle.sparse_parser.proofs.NumberLaws.{digits-of, index-unsigned}
use Rattle.sparse_parser.proofs.ByteClasses.{digit_no_sign}

-- the number, if it fits in a signed integer of this width
abbrev pub accepted : Width → ℤ → Read ℤ
accepted w z = cond (fits (hbits w) z) (Ok z) (Err TypeMismatch)

only : (b : Bool) (z : ℤ) → OnlyMismatch {A = ℤ} (cond b (Ok z) (Err TypeMismatch))
only true z = tt
only false z = refl

pub accepted_refuses : (w : Width) (z : ℤ) → OnlyMismatch (accepted w z)
accepted_refuses w z = only (fits (hbits w) z) z

-- ---- decimal digits

own : IsNumeralModel (λ ds. list_all is_ascii_digit ds ≡ true) (digits_value 10)
own = numerals_by_value _ (search rules)

pub decimal-index : (n : ℕ) → n < 10 ^ 64 → is_index (decimal n) ≡ true
decimal-index n lt =
    let d = (decimal_is_IsNumeral_wide n lt).0 in
    rw (lt-ltb 0 (length (decimal n)) d.0, own.from (decimal n) d.1) refl

pub decimal-value : (n : ℕ) → n < 10 ^ 64 → digits_value 10 (decimal n) ≡ n
decimal-value n lt = (decimal_is_IsNumeral_wide n lt).1

unsigned_value : (ds : List ℕ) → is_index ds ≡ true
    → signed_digits_value 10 ds ≡ pos (digits_value 10 ds)
unsigned_value [] e = refl
unsigned_value (c ∷ cs) e = let d = digits-of (c ∷ cs) e in let s =
    digit_no_sign c d.1.0 in rw (s.0, s.1) refl

-- ---- integers of a width

bits_few : (w : Width) → hbits w ≤ 127
bits_few w8 = omega arith
bits_few w16 = omega arith
bits_few w32 = omega arith
bits_few w64 = omega arith
bits_few w128 = omega arith

wide_power : (w : Width) → 2 ^ hbits w ≤ 2 ^ 127
wide_power w = pow-le-pow_right {n = 2} (omega arith) {i = hbits w} {j = 127} (bits_few w)

integer-signed : (w : Width) (z : ℤ) → FitsSigned w z → is_integer (signed_decimal z) ≡ true
integer-signed w (pos n) f = let p = wide_power w in let s = f.sfits in let i =
    decimal-index n (omega arith) in ap is_index (index-unsigned (decimal n) i) ∙ i
integer-signed w (negsuc n) f = let p = wide_power w in let s =
    f.sfits in decimal-index (suc n) (omega arith)

signed_value : (w : Width) (z : ℤ) → FitsSigned w z → signed_digits_value 10 (signed_decimal z) ≡ z
signed_value w (pos n) f = let p = wide_power w in let s = f.sfits in unsigned_value (decimal n)
    (decimal-index n (omega arith)) ∙ ap pos (decimal-value n (omega arith))
signed_value w (negsuc n) f = let p = wide_power w in let s =
    f.sfits in rw (decimal-value (suc n) (omega arith)) refl

fits_wide : (w : Width) (z : ℤ) → FitsSigned w z → (fits 127 z ≡ true) × (fits (hbits w) z ≡ true)
fits_wide w (pos n) f = let p = wide_power w in let s =
    f.sfits in (lt-ltb n (2 ^ 127) (omega arith), lt-ltb n (2 ^ hbits w) s)
fits_wide w (negsuc n) f = let p = wide_power w in let s =
    f.sfits in (lt-ltb n (2 ^ 127) (omega arith), lt-ltb n (2 ^ hbits w) s)

pub number_text : (w : Width) (z : ℤ) → FitsSigned w z → IsNumberText (accepted w) (signed_decimal z) z
number_text w z f =
    let v = signed_value w z f in
    let h = fits_wide w z f in
    record {
      spelled = integer-signed w z f;
      wide = ap (fits 127) v ∙ h.0;
      back = ap (accepted w) v ∙ rw (h.1) refl;
    }
