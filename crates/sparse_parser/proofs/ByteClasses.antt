-- Which classes of bytes contain or exclude each other, such as digits, signs, blanks and line
-- ends.
use Rattle.std.proofs.Common.{◌≡◌, ℕ, Bool, true, false, eqb, ◌||◌, List, [], ◌∷◌, ◌++◌, arith}
use Rattle.std.specs.Char.{is_ascii_digit}
use Rattle.std.proofs.lemmas.Bool.Decides.{nat_tests}
use Rattle.sparse_parser.specs.Bytes.{is_blank, is_point}
use Rattle.sparse_parser.specs.InnerBytes.{is_within_line, is_space, is_solid, is_unscaled}
use Rattle.sparse_parser.proofs.LeadingBytes.{Passes}

pub blank_within_line : (b : ℕ) → is_blank b ≡ true → is_within_line b ≡ true
blank_within_line b e = grind (arith, nat_tests)

pub digit_solid : (b : ℕ) → is_ascii_digit b ≡ true → is_solid b ≡ true
digit_solid b e = grind (arith, nat_tests)

pub sign_solid : (b : ℕ) → (eqb b 43 || eqb b 45) ≡ true → is_solid b ≡ true
sign_solid b e = grind (arith, nat_tests)

pub solid_no_blank : (b : ℕ) → is_solid b ≡ true → is_blank b ≡ false
solid_no_blank b e = grind (arith, nat_tests)

pub solid_within_line : (b : ℕ) → is_solid b ≡ true → is_within_line b ≡ true
solid_within_line b e = grind (arith, nat_tests)

pub unsolid_no_digit : (b : ℕ) → is_solid b ≡ false → is_ascii_digit b ≡ false
unsolid_no_digit b e = grind (arith, nat_tests)

pub space_no_digit : (b : ℕ) → is_space b ≡ true → is_ascii_digit b ≡ false
space_no_digit b e = grind (arith, nat_tests)

pub unsolid_space : (b : ℕ) → is_solid b ≡ false → is_space b ≡ true
unsolid_space b e = grind (arith, nat_tests)

pub space_unsolid : (b : ℕ) → is_space b ≡ false → is_solid b ≡ true
space_unsolid b e = grind (arith, nat_tests)

pub digit_unscaled : (b : ℕ) → is_ascii_digit b ≡ true → is_unscaled b ≡ true
digit_unscaled b e = grind (arith, nat_tests)

pub sign_no_digit : (b : ℕ) → (eqb b 43 || eqb b 45) ≡ true → is_ascii_digit b ≡ false
sign_no_digit b e = grind (arith, nat_tests)

pub digit_no_sign : (b : ℕ) → is_ascii_digit b ≡ true → (eqb b 45 ≡ false) × (eqb b 43 ≡ false)
digit_no_sign b e = (grind (arith, nat_tests), grind (arith, nat_tests))

pub digit_no_point : (b : ℕ) → is_ascii_digit b ≡ true → is_point b ≡ false
digit_no_point b e = grind (arith, nat_tests)

pub Passes-weaker : (p q : ℕ → Bool) (text : List ℕ) → ((b : ℕ) → p b ≡ true → q b ≡ true)
    → Passes p text → Passes q text
Passes-weaker p q [] f h = tt
Passes-weaker p q (b ∷ text) f h = (f b h.0, Passes-weaker p q text f h.1)

pub Passes-append : (p : ℕ → Bool) (s t : List ℕ) → Passes p s → Passes p t → Passes p (s ++ t)
Passes-append p [] t h k = k
Passes-append p (b ∷ s) t h k = (h.0, Passes-append p s t h.1 k)
