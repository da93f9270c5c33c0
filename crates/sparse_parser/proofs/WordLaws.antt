-- A line has exactly one list of words, which is `words_of` of the line.
use Rattle.std.proofs.Common.{◌≡◌, ℕ, ◌<◌, Bool, true, false, List, [], ◌∷◌, ◌++◌, length}
use Rattle.std.proofs.Common.{refl, sym, ap, subst, ◌∙◌, arith}
use Rattle.std.specs.Prelude.{filter}
use Rattle.std.specs.List.{AllByRecursion, slice_split}
use Rattle.std.proofs.lemmas.Bool.{lt-ltb, not-true, not-false}
use Rattle.std.proofs.lemmas.List.Splits.{slice_split_none, slice_split_at, slice_split-cons_yes}
use Rattle.std.proofs.lemmas.List.Elements.{All-from_recursion}
use Rattle.std.proofs.lemmas.List.{append-nil, nil_from_length}
use Rattle.sparse_parser.specs.Bytes.{is_blank, leading, after}
use Rattle.sparse_parser.specs.InnerBytes.{is_within_word}
use Rattle.sparse_parser.specs.Grammar.{AreBlanks, IsWordEnd, AreWords}
use Rattle.sparse_parser.specs.Words.{is_some_word}
use Rattle.sparse_parser.specs.InnerReading.{words_of}
use Rattle.sparse_parser.proofs.LeadingBytes.{Passes, IsStopped, Passes-leading, IsStopped-after}
use Rattle.sparse_parser.proofs.LeadingBytes.{leading-append-after}

pub words_of-nil : words_of [] ≡ []
unfolding words_of
words_of-nil = refl

pub words_of-blank : (b : ℕ) (rest : List ℕ) → is_blank b ≡ true
    → words_of (b ∷ rest) ≡ words_of rest
unfolding words_of
words_of-blank b rest e = ap (filter is_some_word) (slice_split-cons_yes is_blank b rest e)

pub words_of-blanks : (before rest : List ℕ) → AreBlanks before
    → words_of (before ++ rest) ≡ words_of rest
words_of-blanks [] rest h = refl
words_of-blanks (b ∷ before) rest h = words_of-blank b (before ++ rest) h.0
    ∙ words_of-blanks before rest h.1

kept : (word : List ℕ) (parts : List (List ℕ)) → 0 < length word
    → filter is_some_word (word ∷ parts) ≡ word ∷ filter is_some_word parts
kept word parts lt = rw (lt-ltb 0 (length word) lt) refl

-- the words of a line that begins with a word
pub words_of-word : (word rest : List ℕ) → 0 < length word
    → AllByRecursion (λ b. is_blank b ≡ false) word → IsWordEnd rest
    → words_of (word ++ rest) ≡ word ∷ words_of rest
unfolding words_of
words_of-word word [] lt solid word_end =
    ap words_of (append-nil word) ∙ ap (filter is_some_word)
    (slice_split_none is_blank word (All-from_recursion (λ b. is_blank b ≡ false) word solid))
    ∙ kept word [] lt
words_of-word word (b ∷ rest) lt solid word_end =
    ap (filter is_some_word) (slice_split_at is_blank word b rest
    (All-from_recursion (λ b. is_blank b ≡ false) word solid) word_end)
    ∙ kept word (slice_split is_blank rest) lt ∙ ap (λ (ws : List (List ℕ)). word ∷ ws)
    (sym (words_of-blank b rest word_end))

-- each list of words of a line is `words_of` of the line
pub words_only : (line : List ℕ) (words : List (List ℕ)) → AreWords line words
    → words_of line ≡ words
words_only line [] h = ap words_of (sym (append-nil line)) ∙ words_of-blanks line [] h
    ∙ words_of-nil
words_only line (word ∷ words) (before, rest, blanks, lt, solid, e, word_end, others) =
    ap words_of e ∙ words_of-blanks before (word ++ rest) blanks
    ∙ words_of-word word rest lt solid word_end ∙ ap (λ (ws : List (List ℕ)). word ∷ ws)
    (words_only rest words others)

-- `words_of` of a line is a list of its words
abbrev Some_words : List ℕ → Type 0
Some_words line = (words : List (List ℕ)) × AreWords line words

pub false-true : {P : Type 0} {b : Bool} → b ≡ false → b ≡ true → P
false-true e f = absurd cc

one_more : (c : ℕ) (line : List ℕ) (b : Bool) → is_blank c ≡ b → Some_words line
    → Some_words (c ∷ line)
one_more c line true e ([], h) = ([], (e, h))
one_more c line true e (word ∷ words, h) =
    (word ∷ words, (c ∷ h.0, h.1, (e, h.2), h.3, h.4, ap (λ (l : List ℕ). c ∷ l) h.5, h.6, h.7))
one_more c [] false e h = ((c ∷ []) ∷ [], ([], [], tt, omega arith, (e, tt), refl, tt, tt))
one_more c (d ∷ line) false e h = beside (is_blank d) refl h
  where
    beside : (b : Bool) → is_blank d ≡ b → Some_words (d ∷ line) → Some_words (c ∷ (d ∷ line))
    beside true f (words, h) = (
      (c ∷ []) ∷ words,
      ([], d ∷ line, tt, omega arith, (e, tt), refl, f, h),
    )
    beside false f ([], h) = false-true f h.0
    beside false f (word ∷ words, ([], rest, blanks, lt, solid, same, word_end, others)) = (
      (c ∷ word) ∷ words,
      (
        [],
        rest,
        tt,
        omega arith,
        (e, solid),
        ap (λ (l : List ℕ). c ∷ l) same,
        word_end,
        others,
      ),
    )
    beside false f (word ∷ words, (b ∷ before, rest, blanks, lt, solid, same, word_end, others)) =
        false-true f (let h : d ≡ b = cc in rw h blanks.0)

some_words : (line : List ℕ) → Some_words line
some_words [] = ([], tt)
some_words (c ∷ line) = one_more c line (is_blank c) refl (some_words line)

pub words_are : (line : List ℕ) → AreWords line (words_of line)
words_are line = let w = some_words line in subst (λ (words : List (List ℕ)). AreWords line words)
    (sym (words_only line w.0 w.1)) w.1

-- ---- the first word, as a loop finds it

pub words_of-after_blanks : (line : List ℕ) → words_of (after is_blank line) ≡ words_of line
words_of-after_blanks line = sym (words_of-blanks (leading is_blank line) (after is_blank line)
    (Passes-leading is_blank line)) ∙ ap words_of (leading-append-after is_blank line)

solid-from : (word : List ℕ) → Passes is_within_word word
    → AllByRecursion (λ b. is_blank b ≡ false) word
solid-from [] h = tt
solid-from (b ∷ word) h = (not-true (is_blank b) h.0, solid-from word h.1)

word_end-from : (rest : List ℕ) → IsStopped is_within_word rest → IsWordEnd rest
word_end-from [] h = tt
word_end-from (b ∷ rest) h = not-false (is_blank b) h

some_leading : (b : ℕ) (line : List ℕ) → is_blank b ≡ false
    → 0 < length (leading is_within_word (b ∷ line))
some_leading b line e = rw e (omega arith)

pub words_of-leading : (line : List ℕ) → IsStopped is_blank line → 0 < length line
    → words_of line ≡ leading is_within_word line ∷ words_of (after is_within_word line)
words_of-leading [] stop lt = absurd (omega arith)
words_of-leading (b ∷ line) stop lt =
    ap words_of (sym (leading-append-after is_within_word (b ∷ line)))
    ∙ words_of-word (leading is_within_word (b ∷ line)) (after is_within_word (b ∷ line))
    (some_leading b line stop) (solid-from _ (Passes-leading is_within_word (b ∷ line)))
    (word_end-from _ (IsStopped-after is_within_word (b ∷ line)))

-- a line has no word if nothing is left after its leading blanks
pub no_word : (line rest : List ℕ) → rest ≡ after is_blank line → length rest ≡ 0
    → words_of line ≡ []
no_word line rest e l = sym (words_of-after_blanks line)
    ∙ ap words_of (sym e ∙ nil_from_length rest l) ∙ words_of-nil

pub first_word : (line rest word others : List ℕ) → rest ≡ after is_blank line → 0 < length rest
    → word ≡ leading is_within_word rest → others ≡ after is_within_word rest
    → words_of line ≡ word ∷ words_of others
first_word line rest word others e lt w o =
    sym (words_of-after_blanks line) ∙ ap words_of (sym e)
    ∙ words_of-leading rest (subst (IsStopped is_blank) (sym e) (IsStopped-after is_blank line)) lt
    ∙ ap (λ (x : List ℕ). x ∷ words_of (after is_within_word rest)) (sym w)
    ∙ ap (λ (x : List ℕ). word ∷ words_of x) (sym o)
