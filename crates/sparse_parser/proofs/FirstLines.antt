-- The first line of a text and the lines below it, and the search for the next line.
use Rattle.std.proofs.Common.{◌≡◌, ◌≢◌, ℕ, ◌-◌, ◌<◌, ◌≤◌, Bool, true, false, List}
use Rattle.std.proofs.Common.{[], ◌∷◌, ◌++◌, length, drop, refl, sym, ap, subst, ◌∙◌, arith}
use Rattle.std.specs.Prelude.{filter}
use Rattle.std.proofs.lemmas.Bool.{not-true, not-false}
use Rattle.std.proofs.lemmas.List.{append-nil}
use Rattle.sparse_parser.specs.Bytes.{is_blank, is_line_end, leading, after}
use Rattle.sparse_parser.specs.InnerBytes.{is_space, is_within_line}
use Rattle.sparse_parser.specs.Grammar.{IsOneLine}
use Rattle.sparse_parser.specs.InnerReading.{is_content, words_of}
use Rattle.sparse_parser.specs.InnerReading.{written_of, contents_of}
use Rattle.sparse_parser.proofs.LeadingBytes.{Passes, IsStopped, leading-yes, after-yes, after-no}
use Rattle.sparse_parser.proofs.LeadingBytes.{Passes-leading, IsStopped-after, leading-append-after}
use Rattle.sparse_parser.proofs.LeadingBytes.{length-after, length-after-lt, after_is_end, end_of_end}
use Rattle.sparse_parser.proofs.ByteClasses.{blank_within_line}
use Rattle.sparse_parser.proofs.WordLaws.{words_of-nil, words_of-blank}
use Rattle.sparse_parser.proofs.LineLaws.{add, add-blank, ended, last, written_of-end}
use Rattle.sparse_parser.proofs.ContentLaws.{first_word_of, content_line, is_content-comment}

-- ---- the first line of a text, and the lines below it

pub plain-from : (line : List ℕ) → Passes is_within_line line → IsOneLine line
plain-from [] h = tt
plain-from (b ∷ line) h = (not-true (is_line_end b) h.0, plain-from line h.1)

-- a text's lines are its first line and those of the text after it
written_of-parts : (line rest : List ℕ) → IsOneLine line → IsStopped is_within_line rest
    → written_of (line ++ rest) ≡ add line (written_of rest)
written_of-parts line [] plain stop = ap written_of (append-nil line) ∙ last line plain
    ∙ ap (add line) (sym (last [] tt ∙ add-blank [] [] words_of-nil))
written_of-parts line (b ∷ rest) plain stop = ended line b rest plain (not-false _ stop)
    ∙ ap (add line) (sym (written_of-end b rest (not-false _ stop)))

pub written_of-line : (text : List ℕ)
    → written_of text ≡ add (leading is_within_line text) (written_of (after is_within_line text))
written_of-line text = ap written_of (sym (leading-append-after is_within_line text))
    ∙ written_of-parts _ _ (plain-from _ (Passes-leading is_within_line text))
    (IsStopped-after is_within_line text)

-- a byte that is no blank and no line end
pub outside : (b : ℕ) → is_space b ≡ false → (is_blank b ≡ false) × (is_within_line b ≡ true)
outside b e = by (is_blank b) (is_line_end b) refl refl
  where
    by : (t u : Bool) → is_blank b ≡ t → is_line_end b ≡ u
        → (is_blank b ≡ false) × (is_within_line b ≡ true)
    by true u f g = absurd (let h : is_space b ≡ true = rw f refl in cc)
    by false true f g = absurd (let h : is_space b ≡ true = rw (f, g) refl in cc)
    by false false f g = (f, rw g refl)

written_of-blank : (b : ℕ) (text : List ℕ) → is_blank b ≡ true
    → written_of (b ∷ text) ≡ written_of text
written_of-blank b text e =
    written_of-line (b ∷ text) ∙ rw (
      leading-yes is_within_line b text (blank_within_line b e),
      after-yes is_within_line b text (blank_within_line b e),
      words_of-blank b (leading is_within_line text) e,
    ) refl ∙ sym (written_of-line text)

written_of-space : (b : ℕ) (text : List ℕ) → is_space b ≡ true
    → written_of (b ∷ text) ≡ written_of text
written_of-space b text e = by (is_blank b) (is_line_end b) refl refl
  where
    by : (t u : Bool) → is_blank b ≡ t → is_line_end b ≡ u → written_of (b ∷ text) ≡ written_of text
    by true u f g = written_of-blank b text f
    by false true f g = written_of-end b text g
    by false false f g = absurd (let h : is_space b ≡ false = rw (f, g) refl in cc)

pub written_of-after_space : (text : List ℕ) → written_of (after is_space text) ≡ written_of text
written_of-after_space [] = refl
written_of-after_space (b ∷ text) = by (is_space b) refl (written_of-after_space text)
  where
    by : (t : Bool) → is_space b ≡ t → written_of (after is_space text) ≡ written_of text
        → written_of (after is_space (b ∷ text)) ≡ written_of (b ∷ text)
    by true e h = ap written_of (after-yes is_space b text e) ∙ h ∙ sym (written_of-space b text e)
    by false e h = ap written_of (after-no is_space b text e)

pub contents_of-after_space : (text : List ℕ) → contents_of (after is_space text) ≡ contents_of text
unfolding contents_of
contents_of-after_space text = ap (filter is_content) (written_of-after_space text)

-- the contents of a text whose first line is neither blank nor a comment
pub contents_of-line : (b : ℕ) (text : List ℕ) → is_space b ≡ false → b ≢ 37
    → contents_of (b ∷ text) ≡ words_of (leading is_within_line (b ∷ text)) ∷ contents_of
    (after is_within_line (b ∷ text))
unfolding contents_of
contents_of-line b text e n =
    let o = outside b e in
    let w = first_word_of b (leading is_within_line text) o.0 in
    let f : words_of (leading is_within_line (b ∷ text)) ≡ w.0 ∷ w.1 =
    ap words_of (leading-yes is_within_line b text o.1) ∙ w.2 in
    let c : is_content (w.0 ∷ w.1) ≡ true = content_line w.0 w.1
    (subst (λ (x : ℕ). x ≢ 37) (sym w.3) n) in
    ap (filter is_content) (written_of-line (b ∷ text)) ∙ rw (f, c) refl

pub contents_of-comment : (text : List ℕ)
    → contents_of (37 ∷ text) ≡ contents_of (after is_within_line (37 ∷ text))
unfolding contents_of
contents_of-comment text =
    let w = first_word_of 37 (leading is_within_line text) refl in
    let f : words_of (leading is_within_line (37 ∷ text)) ≡ w.0 ∷ w.1 = w.2 in
    ap (filter is_content) (written_of-line (37 ∷ text)) ∙ rw (f, is_content-comment w.0 w.1 w.3)
    refl

-- the lines of a text whose first line is not blank
pub written_of-first : (b : ℕ) (text : List ℕ) → is_space b ≡ false
    → written_of (b ∷ text) ≡ words_of (leading is_within_line (b ∷ text)) ∷ written_of
    (after is_within_line (b ∷ text))
written_of-first b text e =
    let o = outside b e in
    let w = first_word_of b (leading is_within_line text) o.0 in
    let f : words_of (leading is_within_line (b ∷ text)) ≡ w.0 ∷ w.1 =
    ap words_of (leading-yes is_within_line b text o.1) ∙ w.2 in
    written_of-line (b ∷ text) ∙ rw f refl

pub written_of-nil : written_of [] ≡ []
written_of-nil = last [] tt ∙ add-blank [] [] words_of-nil

pub contents_of-nil : contents_of [] ≡ []
unfolding contents_of
contents_of-nil = ap (filter is_content) written_of-nil

-- ---- the search for the next line

-- only blank lines, comments and blanks of the text come before `rest`
pub record IsSought (text rest : List ℕ) : Type 0 where
  pub same : contents_of rest ≡ contents_of text
  pub len : length rest ≤ length text
  pub end : rest ≡ drop (length text - length rest) text
  pub stop : IsStopped is_space rest

pub sought_first : (text rest : List ℕ) → rest ≡ after is_space text → IsSought text rest
sought_first text rest e = record {
  same = ap contents_of e ∙ contents_of-after_space text;
  len = subst (λ (r : List ℕ). length r ≤ length text) (sym e) (length-after is_space text);
  end = subst (λ (r : List ℕ). r ≡ drop (length text - length r) text) (sym e)
      (after_is_end is_space text);
  stop = subst (IsStopped is_space) (sym e) (IsStopped-after is_space text);
}

pub sought_more : (text comment others rest : List ℕ) → IsSought text comment
    → comment ≡ 37 ∷ drop 1 comment → others ≡ after is_within_line comment
    → rest ≡ after is_space others → IsSought text rest × (length rest < length comment)
sought_more text comment others rest h c o e =
    let next = sought_first others rest e in
    let a : others ≡ after is_within_line (37 ∷ drop 1 comment) = o ∙ ap (after is_within_line) c in
    let less : length others < length comment = subst (λ (x : List ℕ). length x < length comment)
    (sym a) (subst (λ (x : List ℕ). length (after is_within_line (37 ∷ drop 1 comment)) < length
    x) (sym c) (length-after-lt is_within_line 37 (drop 1 comment) refl)) in (
      record {
        same = next.same ∙ ap contents_of a ∙ sym (contents_of-comment (drop 1 comment))
            ∙ ap contents_of (sym c) ∙ h.same;
        len = let l = next.len in let m = h.len in omega arith;
        end = end_of_end text comment rest h.len
            (let l = next.len in omega arith) h.end
            (end_of_end comment others rest (omega arith) next.len
            (subst (λ (x : List ℕ). x ≡ drop (length comment - length x) comment) (sym o)
            (after_is_end is_within_line comment)) next.end);
        stop = next.stop;
      },
      let l = next.len in omega arith,
    )
