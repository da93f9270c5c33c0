-- The words of the lines that are neither blank nor comments are the contents of the grammar.
use Rattle.std.proofs.Common.{◌≡◌, ◌≢◌, ℕ, ◌<◌, true, false, eqb, List}
use Rattle.std.proofs.Common.{[], ◌∷◌, ◌++◌, length, get_or, drop, Some, refl, sym, ap, subst, ◌∙◌}
use Rattle.std.proofs.Common.{arith, inl, inr}
use Rattle.std.specs.Prelude.{filter, ◌⊎◌}
use Rattle.std.proofs.lemmas.Bool.Decides.{eqb_tells}
use Rattle.sparse_parser.specs.declared.header.Header.{Header}
use Rattle.sparse_parser.specs.Bytes.{is_blank, after}
use Rattle.sparse_parser.specs.Header.{header_of}
use Rattle.sparse_parser.specs.Grammar.{AreBlanks, AreWords, AreContents, AreHeaded, IsHeaded}
use Rattle.sparse_parser.specs.InnerReading.{is_content, words_of, written_lines, written_of}
use Rattle.sparse_parser.proofs.WordLaws.{words_of-blanks, words_only}
use Rattle.sparse_parser.proofs.WordLaws.{words_are, false-true}
use Rattle.sparse_parser.proofs.LineLaws.{blank_line, head_byte, lines_only, some_lines}

-- ---- comments and contents

heads : (c : ℕ) (rest word after : List ℕ) → 0 < length word → c ∷ rest ≡ word ++ after
    → get_or word 0 0 ≡ c
heads c rest [] after lt e = absurd (omega arith)
heads c rest (d ∷ word) after lt e = cc

starts : (c : ℕ) (rest word : List ℕ) (words : List (List ℕ)) → is_blank c ≡ false
    → AreWords (c ∷ rest) (word ∷ words) → get_or word 0 0 ≡ c
starts c rest word words e ([], after, blanks, lt, solid, same, word_end, others) =
    heads c rest word after lt same
starts c rest word words e (b ∷ before, after, blanks, lt, solid, same, word_end, others) =
    false-true e (let h : c ≡ b = cc in rw h blanks.0)

-- the first word of a text that begins with the byte c begins with c
pub first_word_of : (c : ℕ) (rest : List ℕ) → is_blank c ≡ false
    → (word : List ℕ) × (words : List (List ℕ)) × (words_of (c ∷ rest) ≡ word ∷ words)
    × (get_or word 0 0 ≡ c)
first_word_of c rest e = by (words_of (c ∷ rest)) refl (words_are (c ∷ rest))
  where
    by : (ws : List (List ℕ)) → words_of (c ∷ rest) ≡ ws → AreWords (c ∷ rest) ws
        → (word : List ℕ) × (words : List (List ℕ)) × (words_of (c ∷ rest) ≡ word ∷ words)
        × (get_or word 0 0 ≡ c)
    by [] same h = false-true e h.0
    by (word ∷ words) same h = (word, words, same, starts c rest word words e h)

abbrev content_lines : List (List ℕ) → List (List (List ℕ))
content_lines lines = filter is_content (written_lines lines)

skip : (line : List ℕ) (lines : List (List ℕ)) (words : List (List ℕ)) → words_of line ≡ words
    → is_content words ≡ false → content_lines (line ∷ lines) ≡ content_lines lines
skip line lines [] e c = rw e refl
skip line lines (word ∷ words) e c = rw (e, c) refl

blank_first : (line : List ℕ) (lines : List (List ℕ)) → AreBlanks line
    → written_lines (line ∷ lines) ≡ written_lines lines
blank_first line lines h = rw (blank_line line h) refl

pub comment_line : (before rest : List ℕ) → AreBlanks before
    → is_content (words_of (before ++ (37 ∷ rest))) ≡ false
unfolding is_content
comment_line before rest h =
    let w = first_word_of 37 rest refl in
    rw (words_of-blanks before (37 ∷ rest) h, w.2, w.3) refl

not_37 : (n : ℕ) → n ≢ 37 → eqb n 37 ≡ false
not_37 n h = elim (eqb_tells n 37) [ inl t ↦ absurd (h t.1) | inr t ↦ t.0 ]

pub content_line : (word : List ℕ) (words : List (List ℕ)) → get_or word 0 0 ≢ 37
    → is_content (word ∷ words) ≡ true
unfolding is_content
content_line word words h = rw (not_37 (get_or word 0 0) h) refl

keep : (line : List ℕ) (lines : List (List ℕ)) (word : List ℕ) (words : List (List ℕ))
    → words_of line ≡ word ∷ words → is_content (word ∷ words) ≡ true
    → content_lines (line ∷ lines) ≡ (word ∷ words) ∷ content_lines lines
keep line lines word words e c = rw (e, c) refl

pub contents_only : (lines : List (List ℕ)) (contents : List (List (List ℕ)))
    → AreContents lines contents → content_lines lines ≡ contents
contents_only [] contents h = sym h
contents_only (line ∷ lines) contents (inl h) = ap (filter is_content) (blank_first line lines h.0)
    ∙ contents_only lines contents h.1
contents_only (line ∷ lines) contents (inr (inl (before, rest, blanks, e, others))) =
    skip line lines (words_of line) refl (ap (λ (l : List ℕ). is_content (words_of l)) e
    ∙ comment_line before rest blanks) ∙ contents_only lines contents others
contents_only (line ∷ lines) contents (inr (inr (word, words, more, are, plain, e, others))) =
    keep line lines word words (words_only line (word ∷ words) are) (content_line word words plain)
    ∙ ap (λ (c : List (List (List ℕ))). (word ∷ words) ∷ c) (contents_only lines more others)
    ∙ sym e

-- the words of the first line that is not blank, and the contents of the lines below it
abbrev pub Begins : List (List (List ℕ)) → List (List ℕ) → List (List (List ℕ)) → Type 0
Begins lines header contents = (others : List (List (List ℕ))) × (lines ≡ header ∷ others)
    × (filter is_content others ≡ contents)

pub headed_only : (lines : List (List ℕ)) (header : List (List ℕ)) (contents : List (List (List ℕ)))
    → AreHeaded lines header contents → Begins (written_lines lines) header contents
headed_only [] header contents h = absurd h
headed_only (line ∷ lines) header contents (inl h) = let b =
    headed_only lines header contents h.1 in (b.0, blank_first line lines h.0 ∙ b.1, b.2)
headed_only (line ∷ lines) header contents (inr (word, words, are, e, others)) =
    let w = words_only line (word ∷ words) are in
    let k : written_lines (line ∷ lines) ≡ (word ∷ words) ∷ written_lines lines = rw w refl in (
      written_lines lines,
      k ∙ ap (λ (h : List (List ℕ)). h ∷ written_lines lines) (sym e),
      contents_only lines contents others,
    )

-- ---- each list of lines has contents, and a header if it has a line that is not blank

commented : (line word : List ℕ) (words : List (List ℕ)) → AreWords line (word ∷ words)
    → get_or word 0 0 ≡ 37
    → (before : List ℕ) × (rest : List ℕ) × AreBlanks before × (line ≡ before ++ (37 ∷ rest))
commented line word words (before, rest, blanks, lt, solid, same, word_end, others) p = (
  before,
  drop 1 word ++ rest,
  blanks,
  same
      ∙ ap (λ (w : List ℕ). before ++ (w ++ rest)) (head_byte 37 word lt p),
)

pub is_content-comment : (word : List ℕ) (words : List (List ℕ)) → get_or word 0 0 ≡ 37
    → is_content (word ∷ words) ≡ false
unfolding is_content
is_content-comment word words e = rw e refl

more_contents : (line : List ℕ) (lines : List (List ℕ)) (ws : List (List ℕ)) → words_of line ≡ ws
    → AreWords line ws → AreContents lines (content_lines lines)
    → AreContents (line ∷ lines) (content_lines (line ∷ lines))
more_contents line lines [] e h rest = inl
    (h, subst (AreContents lines) (sym (ap (filter is_content) (blank_first line lines h))) rest)
more_contents line lines (word ∷ words) e h rest = tested (eqb_tells (get_or word 0 0) 37)
  where
    tested : ((eqb (get_or word 0 0) 37 ≡ true) × (get_or word 0 0 ≡ 37))
        ⊎ ((eqb (get_or word 0 0) 37 ≡ false) × (get_or word 0 0 ≢ 37))
        → AreContents (line ∷ lines) (content_lines (line ∷ lines))
    tested (inl f) = let k = commented line word words h f.1 in inr
        (inl (
          k.0,
          k.1,
          k.2,
          k.3,
          subst (AreContents lines)
              (sym (skip line lines (word ∷ words) e (is_content-comment word words f.1))) rest,
        ))
    tested (inr f) =
        inr (inr (
          word,
          words,
          content_lines lines,
          h,
          f.1,
          keep line lines word words e (content_line word words f.1),
          rest,
        ))

pub contents_are : (lines : List (List ℕ)) → AreContents lines (content_lines lines)
contents_are [] = refl
contents_are (line ∷ lines) = more_contents line lines (words_of line) refl (words_are line)
    (contents_are lines)

more_headed : (line : List ℕ) (lines : List (List ℕ)) (header : List (List ℕ))
    (others : List (List (List ℕ))) (ws : List (List ℕ))
    → words_of line ≡ ws → AreWords line ws → written_lines (line ∷ lines) ≡ header ∷ others
    → (written_lines lines ≡ header ∷ others → AreHeaded lines header (filter is_content others))
    → AreHeaded (line ∷ lines) header (filter is_content others)
more_headed line lines header others [] e h k rest =
    inl (h, rest (sym (blank_first line lines h) ∙ k))
more_headed line lines header others (word ∷ words) e h k rest =
    let first : written_lines (line ∷ lines) ≡ (word ∷ words) ∷ written_lines lines = rw e refl in
    let same : (word ∷ words) ∷ written_lines lines ≡ header ∷ others = sym first ∙ k in
    let h-is : header ≡ word ∷ words = cc in
    let c-is : written_lines lines ≡ others = cc in
    inr (
      word,
      words,
      h,
      h-is,
      subst (λ (ls : List (List (List ℕ))). AreContents lines
          (filter is_content ls)) c-is (contents_are lines),
    )

pub headed_are : (lines : List (List ℕ)) (header : List (List ℕ)) (others : List (List (List ℕ)))
    → written_lines lines ≡ header ∷ others → AreHeaded lines header (filter is_content others)
headed_are [] header others e = absurd cc
headed_are (line ∷ lines) header others e = more_headed line lines header others (words_of line)
    refl (words_are line) e (headed_are lines header others)

-- ---- a text has the header and the contents that `written_of` gives

pub headed_lines : (text : List ℕ) (header : Header) (contents : List (List (List ℕ)))
    (h : IsHeaded text header contents)
    → Begins (written_of text) h.words contents
headed_lines text header contents h = let b = headed_only h.lines h.words contents
    h.headed in (b.0, sym (lines_only text h.lines h.cut) ∙ b.1, b.2)

pub lines_headed : (text : List ℕ) (words : List (List ℕ)) (others : List (List (List ℕ)))
    (header : Header)
    → written_of text ≡ words ∷ others → header_of words ≡ Some header
    → IsHeaded text header (filter is_content others)
lines_headed text words others header e h =
    let l = some_lines text in
    record {
      lines = l.0;
      words = words;
      cut = l.1;
      headed = headed_are l.0 words others (lines_only text l.0 l.1 ∙ e);
      says = h;
    }
