-- Each text has lines, and `written_of` gives the words of those that are not blank.
use Rattle.std.proofs.Common.{◌≡◌, ℕ, Bool, true, false, cond, eqb, List}
use Rattle.std.proofs.Common.{[], ◌∷◌, ◌++◌, ◌<◌, length, get_or, drop, refl, sym, ap, ◌∙◌, arith}
use Rattle.std.proofs.Common.{inl, inr}
use Rattle.std.proofs.lemmas.Bool.{eqb-true, eqb-false}
use Rattle.std.proofs.lemmas.List.Splits.{slice_split_none, slice_split_at}
use Rattle.std.proofs.lemmas.List.Elements.{All-from_recursion}
use Rattle.std.proofs.lemmas.List.{append-nil}
use Rattle.sparse_parser.specs.Bytes.{is_line_end}
use Rattle.sparse_parser.specs.Grammar.{IsOneLine, IsLineEnd, AreLines, AreBlanks}
use Rattle.sparse_parser.specs.InnerReading.{is_some_line, words_of, written_lines}
use Rattle.sparse_parser.specs.InnerReading.{written_of}
use Rattle.sparse_parser.proofs.WordLaws.{words_of-nil, words_of-blanks}

-- a line's words before those of the other lines, unless the line is blank
abbrev pub add : List ℕ → List (List (List ℕ)) → List (List (List ℕ))
add line lines = cond (is_some_line (words_of line)) (words_of line ∷ lines) lines

pub blank_line : (line : List ℕ) → AreBlanks line → words_of line ≡ []
blank_line line h = ap words_of (sym (append-nil line)) ∙ words_of-blanks line [] h ∙ words_of-nil

pub add-blank : (line : List ℕ) (lines : List (List (List ℕ))) → words_of line ≡ []
    → add line lines ≡ lines
add-blank line lines e = rw e refl

pub ended : (line : List ℕ) (b : ℕ) (rest : List ℕ) → IsOneLine line → is_line_end b ≡ true
    → written_of (line ++ (b ∷ rest)) ≡ add line (written_of rest)
unfolding written_of
ended line b rest plain e = ap written_lines
    (slice_split_at is_line_end line b rest (All-from_recursion (λ b. is_line_end b ≡ false) line
    plain) e)

pub last : (line : List ℕ) → IsOneLine line → written_of line ≡ add line []
unfolding written_of
last line plain = ap written_lines (slice_split_none is_line_end line
    (All-from_recursion (λ b. is_line_end b ≡ false) line plain))

pub written_of-end : (b : ℕ) (rest : List ℕ) → is_line_end b ≡ true
    → written_of (b ∷ rest) ≡ written_of rest
written_of-end b rest e = ended [] b rest tt e ∙ add-blank [] (written_of rest) words_of-nil

after_end : (line end rest : List ℕ) → IsOneLine line → IsLineEnd end rest
    → written_of (line ++ (end ++ rest)) ≡ add line (written_of rest)
after_end line end rest plain (inl e) = ap (λ (x : List ℕ). written_of (line ++ (x ++ rest))) e
    ∙ ended line 10 rest plain refl
after_end line end rest plain (inr (inl e)) = ap (λ (x : List ℕ). written_of (line ++ (x ++ rest)))
    e ∙ ended line 13 (10 ∷ rest) plain refl ∙ ap (add line) (written_of-end 10 rest refl)
after_end line end rest plain (inr (inr e)) = ap (λ (x : List ℕ). written_of (line ++ (x ++ rest)))
    e.0 ∙ ended line 13 rest plain refl

pub lines_only : (text : List ℕ) (lines : List (List ℕ)) → AreLines text lines
    → written_lines lines ≡ written_of text
lines_only text [] e = sym (ap written_of e ∙ last [] tt ∙ add-blank [] [] words_of-nil)
lines_only text (line ∷ lines) (plain, inl (lt, e, none)) =
    ap (λ (ls : List (List ℕ)). add line (written_lines ls)) none
    ∙ sym (ap written_of e ∙ last line plain)
lines_only text (line ∷ lines) (plain, inr (end, rest, is_end, e, others)) =
    ap (add line) (lines_only rest lines others)
    ∙ sym (ap written_of e ∙ after_end line end rest plain is_end)

-- ---- the first byte of a text

pub head_byte : (b : ℕ) (text : List ℕ) → 0 < length text → get_or text 0 0 ≡ b
    → text ≡ b ∷ drop 1 text
head_byte b [] lt e = absurd (omega arith)
head_byte b (c ∷ text) lt e = ap (λ (x : ℕ). x ∷ text) e

-- a byte other than 0 is a byte of the text, since 0 is read beyond the end
pub some_byte : (b : ℕ) (text : List ℕ) → 0 < b → get_or text 0 0 ≡ b → text ≡ b ∷ drop 1 text
some_byte b [] lt e = absurd (omega arith)
some_byte b (c ∷ text) lt e = ap (λ (x : ℕ). x ∷ text) e

-- ---- each text has lines

abbrev Some_lines : List ℕ → Type 0
Some_lines text = (lines : List (List ℕ)) × AreLines text lines

plain_one : (c : ℕ) (text : List ℕ) → is_line_end c ≡ false → Some_lines text
    → Some_lines (c ∷ text)
plain_one c text e ([], h) = (
  (c ∷ []) ∷ [],
  ((e, tt), inl (omega arith, ap (λ (t : List ℕ). c ∷ t) h, refl)),
)
plain_one c text e (line ∷ lines, (plain, inl (lt, same, none))) =
    ((c ∷ line) ∷ lines, ((e, plain), inl (omega arith, ap (λ (t : List ℕ). c ∷ t) same, none)))
plain_one c text e (line ∷ lines, (plain, inr (end, rest, is_end, same, others))) = (
  (c ∷ line) ∷ lines,
  ((e, plain), inr (end, rest, is_end, ap (λ (t : List ℕ). c ∷ t) same, others)),
)

not_end : (c : ℕ) → eqb c 10 ≡ false → eqb c 13 ≡ false → is_line_end c ≡ false
not_end c a b = rw (a, b) refl

one_line : (c : ℕ) (text : List ℕ) → Some_lines text → Some_lines (drop 1 text)
    → Some_lines (c ∷ text)
one_line c text whole less = by (eqb c 10) (eqb c 13) refl refl
  where
    lone : (b : Bool) → eqb (get_or text 0 0) 10 ≡ b → c ≡ 13 → Some_lines (c ∷ text)
    lone false f e = (
      [] ∷ whole.0,
      (
        tt,
        inr (
          13 ∷ [],
          text,
          inr (inr (refl, eqb-false _ _ f)),
          ap (λ (x : ℕ). x ∷ text) e,
          whole.1,
        ),
      ),
    )
    lone true f e = (
      [] ∷ less.0,
      (
        tt,
        inr (
          13 ∷ 10 ∷ [],
          drop 1 text,
          inr (inl refl),
          ap (λ (x : ℕ). x ∷ text) e
              ∙ ap (λ (t : List ℕ). 13 ∷ t) (some_byte 10 text (omega arith) (eqb-true _ _ f)),
          less.1,
        ),
      ),
    )

    by : (lf cr : Bool) → eqb c 10 ≡ lf → eqb c 13 ≡ cr → Some_lines (c ∷ text)
    by true cr e f = (
      [] ∷ whole.0,
      (tt, inr (10 ∷ [], text, inl refl, ap (λ (x : ℕ). x ∷ text) (eqb-true c 10 e), whole.1)),
    )
    by false true e f = lone (eqb (get_or text 0 0) 10) refl (eqb-true c 13 f)
    by false false e f = plain_one c text (not_end c e f) whole

both_lines : (text : List ℕ) → Some_lines text × Some_lines (drop 1 text)
both_lines [] = (([], refl), ([], refl))
both_lines (c ∷ text) = let h = both_lines text in (one_line c text h.0 h.1, h.0)

pub some_lines : (text : List ℕ) → (lines : List (List ℕ)) × AreLines text lines
some_lines text = (both_lines text).0
