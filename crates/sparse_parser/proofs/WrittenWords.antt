-- Written words consist of bytes above the percent sign, which are no blanks and no line ends and
-- begin no comment.
use Rattle.std.proofs.Common.{◌≡◌, ◌≢◌, ℕ, ◌<◌, Bool, true, false, not, eqb, List, [], ◌∷◌, ◌++◌}
use Rattle.std.proofs.Common.{length, get_or, sym, ap, subst, ◌∙◌, append-nil, refl, arith}
use Rattle.std.specs.List.{AllByRecursion, list_all}
use Rattle.std.specs.Char.{is_ascii_digit}
use Rattle.std.specs.Str.Parse.{without_leading_sign}
use Rattle.std.proofs.lemmas.Bool.{not-true}
use Rattle.std.proofs.lemmas.Bool.Decides.{nat_tests}
use Rattle.sparse_algebra.proofs.Cases.{and_parts}
use Rattle.sparse_parser.specs.Bytes.{is_blank, is_line_end}
use Rattle.sparse_parser.specs.Grammar.{IsOneLine, is_index, is_integer}
use Rattle.sparse_parser.proofs.LeadingBytes.{Passes}
use Rattle.sparse_parser.proofs.NumberLaws.{digits-of}

-- each byte is above the percent sign
abbrev pub Solid : List ℕ → Type 0
Solid bytes = AllByRecursion (λ b. 37 < b) bytes

pub record IsText (word : List ℕ) : Type 0 where
  pub some : 0 < length word
  pub solid : Solid word

digit_low : (c : ℕ) → is_ascii_digit c ≡ true → 37 < c
digit_low c e = grind (arith, nat_tests)

solid_digits : (ds : List ℕ) → Passes is_ascii_digit ds → Solid ds
solid_digits [] e = tt
solid_digits (c ∷ cs) e = (digit_low c e.0, solid_digits cs e.1)

pub index_text : (word : List ℕ) → is_index word ≡ true → IsText word
index_text word e = let d = digits-of word e in record { some = d.0; solid = solid_digits word d.1 }

pub integer_text : (word : List ℕ) → is_integer word ≡ true → IsText word
integer_text [] e = absurd cc
integer_text (b ∷ word) e = by (eqb b 45) (eqb b 43) refl refl
  where
    by : (minus plus : Bool) → eqb b 45 ≡ minus → eqb b 43 ≡ plus → IsText (b ∷ word)
    by true plus m p = let k : without_leading_sign (b ∷ word) ≡ word = rw m refl in let d =
        digits-of word (sym (ap is_index k) ∙ e) in record
        { some = omega arith; solid = (grind (arith, nat_tests, m), solid_digits word d.1) }
    by false true m p = let k : without_leading_sign (b ∷ word) ≡ word = rw (m, p) refl in let d =
        digits-of word (sym (ap is_index k) ∙ e) in record
        { some = omega arith; solid = (grind (arith, nat_tests, p), solid_digits word d.1) }
    by false false m p = let k : without_leading_sign (b ∷ word) ≡ b ∷ word =
        rw (m, p) refl in index_text (b ∷ word) (sym (ap is_index k) ∙ e)

-- ---- such bytes are no blanks, no line ends and no percent signs

not_blank : (b : ℕ) → 37 < b → is_blank b ≡ false
not_blank b lt = grind (arith, nat_tests)

not_end : (b : ℕ) → 37 < b → is_line_end b ≡ false
not_end b lt = grind (arith, nat_tests)

pub unblank : (word : List ℕ) → Solid word → AllByRecursion (λ b. is_blank b ≡ false) word
unblank [] h = tt
unblank (b ∷ word) h = (not_blank b h.0, unblank word h.1)

pub unended : (word rest : List ℕ) → Solid word → IsOneLine rest → IsOneLine (word ++ rest)
unended [] rest h k = k
unended (b ∷ word) rest h k = (not_end b h.0, unended word rest h.1 k)

pub plain_text : (word : List ℕ) → Solid word → IsOneLine word
plain_text word h = subst IsOneLine (append-nil word) (unended word [] h tt)

pub not_comment : (word : List ℕ) → IsText word → get_or word 0 0 ≢ 37
not_comment [] t e = absurd (omega (arith, t.some))
not_comment (b ∷ word) t e = absurd (let lt = t.solid.0 in omega arith)

-- ---- a line whose bytes are tested to be no line ends

pub test_plain : (line : List ℕ) → list_all (λ b. not (is_line_end b)) line ≡ true → IsOneLine line
test_plain [] e = tt
test_plain (b ∷ line) e = let p = and_parts _ _ e in
    (not-true (is_line_end b) p.0, test_plain line p.1)
