-- The first word of a line, and the text after it.
use Rattle.std.proofs.Common.{◌≡◌, ℕ, ◌<◌, not, Bool, true, false, List, [], ◌∷◌, ◌++◌, length}
use Rattle.std.proofs.Common.{refl, sym, ap, subst, ◌∙◌, arith}
use Rattle.std.specs.List.{AllByRecursion}
use Rattle.sparse_parser.specs.declared.data_lines.Found.{Found}
use Rattle.sparse_parser.specs.declared.data_lines.Found.TheVariants as found
use Rattle.sparse_parser.specs.Bytes.{is_blank, is_line_end, leading, after}
use Rattle.sparse_parser.specs.InnerBytes.{is_space, is_within_line, is_solid}
use Rattle.sparse_parser.specs.Grammar.{IsWordEnd}
use Rattle.sparse_parser.specs.InnerReading.{words_of, line_words, ends_line}
use Rattle.sparse_parser.specs.InnerLines.{IsWord, IsFound, StartsWord, ends_word}
use Rattle.sparse_parser.proofs.LeadingBytes.{Passes, IsStopped, Passes-leading, IsStopped-after}
use Rattle.sparse_parser.proofs.LeadingBytes.{leading-append-after, leading-yes, leading-no, after-no}
use Rattle.sparse_parser.proofs.LeadingBytes.{leading-append_passes, after-append_passes}
use Rattle.sparse_parser.proofs.ByteClasses.{solid_no_blank, solid_within_line, unsolid_space}
use Rattle.sparse_parser.proofs.ByteClasses.{space_unsolid, blank_within_line, Passes-weaker}
use Rattle.sparse_parser.proofs.WordLaws.{words_of-nil, words_of-blanks, words_of-word}

-- ---- blanks before a line

pub words-after_blanks : (text : List ℕ) → line_words (after is_blank text) ≡ line_words text
unfolding line_words
words-after_blanks text =
    sym (words_of-blanks (leading is_blank text) (leading is_within_line (after is_blank text))
    (Passes-leading is_blank text))
    ∙ ap words_of
    (sym (leading-append_passes is_within_line (leading is_blank text) (after is_blank text)
    (Passes-weaker is_blank is_within_line _ blank_within_line (Passes-leading is_blank text)))
    ∙ ap (leading is_within_line) (leading-append-after is_blank text))

pub line-after_blanks : (text : List ℕ)
    → after is_within_line (after is_blank text) ≡ after is_within_line text
line-after_blanks text =
    sym (after-append_passes is_within_line (leading is_blank text) (after is_blank text)
    (Passes-weaker is_blank is_within_line _ blank_within_line (Passes-leading is_blank text)))
    ∙ ap (after is_within_line) (leading-append-after is_blank text)

pub word-after_blanks : (text start word rest : List ℕ) → start ≡ after is_blank text
    → IsWord start word rest → IsWord text word rest
word-after_blanks text start word rest e h = record {
  words = sym (ap line_words e ∙ words-after_blanks text) ∙ h.words;
  line = h.line ∙ ap (after is_within_line) e ∙ line-after_blanks text;
}

at_end : (text : List ℕ) → ends_line text ≡ true
    → (leading is_within_line text ≡ []) × (after is_within_line text ≡ text)
at_end [] e = (refl, refl)
at_end (b ∷ text) e = let n : not (is_line_end b) ≡ false =
    rw e refl in (leading-no is_within_line b text n, after-no is_within_line b text n)

pub line_ends : (text start : List ℕ) → start ≡ after is_blank text → ends_line start ≡ true
    → (line_words text ≡ []) × (start ≡ after is_within_line text)
unfolding line_words
line_ends text start s e =
    let h = at_end start e in (
      sym (ap line_words s ∙ words-after_blanks text) ∙ ap words_of h.0 ∙ words_of-nil,
      sym h.1 ∙ ap (after is_within_line) s ∙ line-after_blanks text,
    )

pub starts_word : (text start : List ℕ) → start ≡ after is_blank text → ends_line start ≡ false
    → StartsWord start
starts_word text start s e =
    by start (subst (IsStopped is_blank) (sym s) (IsStopped-after is_blank text)) e
  where
    by : (start : List ℕ) → IsStopped is_blank start → ends_line start ≡ false → StartsWord start
    by [] stop e = absurd cc
    by (b ∷ start) stop e = rw (stop, e) refl

-- the first word is the same without the blanks before it
pub found_after_blanks : (text start : List ℕ) (f : Found) → start ≡ after is_blank text
    → IsFound start f → IsFound text f
found_after_blanks text start (found.Number n rest) e h =
    (h.0, word-after_blanks text start n.word.now rest.now e h.1)
found_after_blanks text start (found.End rest) e h = (
  sym (ap line_words e ∙ words-after_blanks text) ∙ h.0,
  h.1 ∙ ap (after is_within_line) e
      ∙ line-after_blanks text,
)
found_after_blanks text start found.Fault e h =
    (h.0, h.1, sym (ap line_words e ∙ words-after_blanks text) ∙ h.2, h.3)

-- ---- a word that ends before a blank, a line end or the end of the text

word_end : (rest : List ℕ) → ends_word rest ≡ true → IsWordEnd (leading is_within_line rest)
word_end [] e = tt
word_end (b ∷ rest) e = by (is_line_end b) (is_blank b) refl refl
  where
    by : (t u : Bool) → is_line_end b ≡ t → is_blank b ≡ u
        → IsWordEnd (leading is_within_line (b ∷ rest))
    by true u f g = subst IsWordEnd (sym (leading-no is_within_line b rest (rw f refl))) tt
    by false true f g = subst IsWordEnd (sym (leading-yes is_within_line b rest (rw f refl))) g
    by false false f g = absurd (let h : is_space b ≡ false = rw (f, g) refl in cc)

no_blanks : (word : List ℕ) → Passes is_solid word → AllByRecursion (λ b. is_blank b ≡ false) word
no_blanks [] h = tt
no_blanks (b ∷ word) h = (solid_no_blank b h.0, no_blanks word h.1)

pub word_first : (word rest : List ℕ) → 0 < length word → Passes is_solid word
    → ends_word rest ≡ true → IsWord (word ++ rest) word rest
unfolding line_words
word_first word rest lt solid e =
    let inside = Passes-weaker is_solid is_within_line word solid_within_line solid in
    record {
      words = ap words_of (leading-append_passes is_within_line word rest inside)
          ∙ words_of-word word (leading is_within_line rest) lt (no_blanks word solid) (word_end rest e);
      line = sym (after-append_passes is_within_line word rest inside);
    }

-- ---- the longest prefix without blanks and line ends

pub stops_word : (next : List ℕ) → IsStopped is_solid next → ends_word next ≡ true
stops_word [] stop = refl
stops_word (b ∷ next) stop = unsolid_space b stop

some_solid : (text : List ℕ) → StartsWord text → 0 < length (leading is_solid text)
some_solid [] h = absurd h
some_solid (b ∷ text) h = rw (space_unsolid b h) (omega arith)

pub other_word : (text word rest : List ℕ) → StartsWord text → word ≡ leading is_solid text
    → rest ≡ after is_solid text → IsWord text word rest
other_word text word rest start w r =
    let h = word_first (leading is_solid text) (after is_solid text) (some_solid text start)
    (Passes-leading is_solid text) (stops_word _ (IsStopped-after is_solid text)) in
    let k = subst (λ (t : List ℕ). IsWord t (leading is_solid text) (after is_solid text))
    (leading-append-after is_solid text) h in
    subst (λ (x : List ℕ). IsWord text x rest) (sym w)
    (subst (λ (x : List ℕ). IsWord text (leading is_solid text) x) (sym r) k)
