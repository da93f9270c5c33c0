-- The lines of a text, collected one at a time.
use Rattle.std.proofs.Common.{◌≡◌, ℕ, suc, cond, ◌+◌, ◌<◌, ◌≤◌, Bool, true, false, List, [], ◌∷◌}
use Rattle.std.proofs.Common.{◌++◌, length, map, take, drop, get_or, refl, sym, ap, ◌∙◌, add-one}
use Rattle.std.proofs.Common.{drop-cons, arith}
use Rattle.std.specs.Prelude.{filter, ◌&&◌, ◌==◌}
use Rattle.std.proofs.lemmas.Bool.{eqb-true, eqb-false}
use denote.Ref.{Bor}
use Rattle.std.specs.List.{list_all}
use Rattle.std.proofs.lemmas.List.{map_more, append-nil, get_or-map, length-map, take_all}
use Rattle.std.proofs.lemmas.List.Elements.{filter-append, filter_more}
use Rattle.std.proofs.lemmas.List.Folds.{list_all_at}
use Rattle.sparse_parser.specs.Grammar.{is_entry}
use Rattle.sparse_parser.specs.InnerReading.{is_some_line, words_of, written_lines, is_content}
use Rattle.reference_models.specs.declared.texts.lines.Line.{Line}
use Rattle.reference_models.specs.InnerTexts.{texts, words_in, lines_in}

one_more : (lines : List (List ℕ)) (i : ℕ) → i < length lines
    → written_lines (take (i + 1) lines) ≡ written_lines (take i lines) ++ filter is_some_line
    (words_of (get_or lines i []) ∷ [])
one_more lines i lt =
    ap (filter is_some_line) (map_more words_of lines i [] lt)
    ∙ filter-append is_some_line (map words_of (take i lines)) (words_of (get_or lines i []) ∷ [])

kept : (words : List (List ℕ)) → is_some_line words ≡ true
    → filter is_some_line (words ∷ []) ≡ words ∷ []
kept words some = rw some refl

left_out : (words : List (List ℕ)) → is_some_line words ≡ false
    → filter is_some_line (words ∷ []) ≡ []
left_out words none = rw none refl

-- a line with words
written_some : (lines : List (List ℕ)) (i : ℕ) (words : List (List ℕ)) → i < length lines
    → words_of (get_or lines i []) ≡ words → is_some_line words ≡ true
    → written_lines (take (i + 1) lines) ≡ written_lines (take i lines) ++ words ∷ []
written_some lines i words lt e some =
    one_more lines i lt
    ∙ ap (λ (w : List (List ℕ)). written_lines (take i lines) ++ filter is_some_line (w ∷ [])) e
    ∙ ap (λ (w : List (List (List ℕ))). written_lines (take i lines) ++ w) (kept words some)

-- a blank line
written_none : (lines : List (List ℕ)) (i : ℕ) (words : List (List ℕ)) → i < length lines
    → words_of (get_or lines i []) ≡ words → is_some_line words ≡ false
    → written_lines (take (i + 1) lines) ≡ written_lines (take i lines)
written_none lines i words lt e none =
    one_more lines i lt
    ∙ ap (λ (w : List (List ℕ)). written_lines (take i lines) ++ filter is_some_line (w ∷ [])) e
    ∙ ap (λ (w : List (List (List ℕ))). written_lines (take i lines) ++ w) (left_out words none)
    ∙ append-nil (written_lines (take i lines))

-- ---- in the form that the loops use

pub some_words : (words : List (Bor (List ℕ))) (n : ℕ) (empty : Bool) → empty ≡ (n == 0)
    → n ≡ length words → empty ≡ false → is_some_line (texts words) ≡ true
some_words [] n empty e l f = absurd (eqb-false n 0 (sym e ∙ f) l)
some_words (w ∷ ws) n empty e l f = refl

pub no_words : (words : List (Bor (List ℕ))) (n : ℕ) (empty : Bool) → empty ≡ (n == 0)
    → n ≡ length words → empty ≡ true → is_some_line (texts words) ≡ false
no_words [] n empty e l f = refl
no_words (w ∷ ws) n empty e l f = let z = eqb-true n 0 (sym e ∙ f) in absurd (omega arith)

at_text : (lines : List (Bor (List ℕ))) (i : ℕ) (d : Bor (List ℕ)) → d.now ≡ [] → i < length lines
    → get_or (texts lines) i [] ≡ (get_or lines i d).now
at_text lines i d e lt =
    ap (get_or (texts lines) i) (sym e) ∙ get_or-map (λ (word : Bor (List ℕ)). word.now) lines i d
    d.now lt

module _ (lines : List (Bor (List ℕ))) (i : ℕ) (d : Bor (List ℕ)) (words : List (List ℕ))
    (e : d.now ≡ []) (lt : i < length lines) (are : words ≡ words_of (get_or lines i d).now) where
  these : words_of (get_or (texts lines) i []) ≡ words
  these = ap words_of (at_text lines i d e lt) ∙ sym are

  as_long : i < length (texts lines)
  as_long = omega (arith, length-map lines (λ (word : Bor (List ℕ)). word.now))

  pub text_some : is_some_line words ≡ true
      → written_lines (take i (texts lines)) ++ words ∷ [] ≡ written_lines
      (take (i + 1) (texts lines))
  text_some some = sym (written_some (texts lines) i words as_long these some)

  pub text_none : is_some_line words ≡ false
      → written_lines (take i (texts lines)) ≡ written_lines (take (i + 1) (texts lines))
  text_none none = sym (written_none (texts lines) i words as_long these none)

pub text_all : (lines : List (Bor (List ℕ))) (i : ℕ) → length lines ≤ i
    → take i (texts lines) ≡ texts lines
text_all lines i le =
    take_all i (texts lines) (omega (arith, length-map lines (λ (word : Bor (List ℕ)). word.now)))

-- ---- lists of lines

pub lines_push : (lines : List Line) (line : Line)
    → lines_in (lines ++ line ∷ []) ≡ lines_in lines ++ words_in line ∷ []
lines_push [] line = refl
lines_push (l ∷ ls) line = ap (λ (ws : List (List (List ℕ))). words_in l ∷ ws) (lines_push ls line)

-- a test of all remaining lines, if the first of them passes
all_left : {X : Type 0} (p : X → Bool) (xs : List X) (i : ℕ) (x : X) → i < length xs
    → get_or xs i x ≡ x → p x ≡ true → list_all p (drop (i + 1) xs) ≡ list_all p (drop i xs)
all_left {X} p xs i x lt at passes =
    sym (ap (list_all p) (drop-cons xs i x lt)
    ∙ ap (λ (y : X). p y && list_all p (drop (suc i) xs)) at
    ∙ ap (λ (b : Bool). b && list_all p (drop (suc i) xs)) passes
    ∙ ap (λ (k : ℕ). list_all p (drop k xs)) (sym (add-one i)))

pub words_at : (lines : List Line) (i : ℕ) (line : Line) (d : List (List ℕ)) → i < length lines
    → line ≡ get_or lines i line → get_or (lines_in lines) i d ≡ words_in line
words_at lines i line d lt at = get_or-map words_in lines i line d lt ∙ ap words_in (sym at)

pub lines_long : (lines : List Line) (i : ℕ) → i < length lines → i < length (lines_in lines)
lines_long lines i lt = omega (arith, length-map lines words_in)

pub all_more : (lines : List Line) (i : ℕ) (line : Line) → i < length lines
    → line ≡ get_or lines i line → is_entry (words_in line) ≡ true
    → list_all is_entry (drop (i + 1) (lines_in lines)) ≡ list_all is_entry
    (drop i (lines_in lines))
all_more lines i line lt at passes =
    all_left is_entry (lines_in lines) i (words_in line) (lines_long lines i lt)
    (words_at lines i line _ lt at) passes

pub all_refused : (lines : List Line) (i : ℕ) (line : Line) → i < length lines
    → line ≡ get_or lines i line → is_entry (words_in line) ≡ false
    → false ≡ list_all is_entry (lines_in lines)
all_refused lines i line lt at fails =
    sym (list_all_at is_entry (lines_in lines) i (words_in line) (lines_long lines i lt)
    (ap is_entry (words_at lines i line _ lt at) ∙ fails))

-- one more line that is no comment
pub content_some : (lines : List Line) (i : ℕ) (line : Line) → i < length lines
    → line ≡ get_or lines i line → is_content (words_in line) ≡ true
    → filter is_content (take (i + 1) (lines_in lines)) ≡ filter is_content
    (take i (lines_in lines)) ++ words_in line ∷ []
content_some lines i line lt at is =
    filter_more is_content (lines_in lines) i (words_in line) (lines_long lines i lt)
    ∙ ap (λ (ws : List (List ℕ)). filter is_content (take i (lines_in lines)) ++ cond
    (is_content ws) (ws ∷ []) []) (words_at lines i line _ lt at)
    ∙ ap (λ (b : Bool). filter is_content (take i (lines_in lines)) ++ cond b (words_in line ∷ [])
    []) is

-- one more comment
pub content_none : (lines : List Line) (i : ℕ) (line : Line) → i < length lines
    → line ≡ get_or lines i line → is_content (words_in line) ≡ false
    → filter is_content (take (i + 1) (lines_in lines)) ≡ filter is_content
    (take i (lines_in lines))
content_none lines i line lt at is =
    filter_more is_content (lines_in lines) i (words_in line) (lines_long lines i lt)
    ∙ ap (λ (ws : List (List ℕ)). filter is_content (take i (lines_in lines)) ++ cond
    (is_content ws) (ws ∷ []) []) (words_at lines i line _ lt at)
    ∙ ap (λ (b : Bool). filter is_content (take i (lines_in lines)) ++ cond b (words_in line ∷ [])
    []) is
    ∙ append-nil (filter is_content (take i (lines_in lines)))
