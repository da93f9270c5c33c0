-- There is a written line for each line: which lines are unchanged.
use Rattle.std.proofs.Common.{◌≡◌, ℕ, true, List, [], ◌∷◌, ◌++◌, refl, ap, ◌∙◌, inl, inr}
use Rattle.std.proofs.Common.{append_assoc}
use Rattle.std.specs.List.{AllByRecursion}
use Rattle.sparse_parser.specs.declared.header.Header.{Header}
use Rattle.sparse_parser.specs.Grammar.{AreBlanks, AreContents}
use Rattle.sparse_parser.specs.InnerReading.{is_content, words_of}
use Rattle.sparse_parser.proofs.ContentLaws.{comment_line, content_line, contents_are}
use Rattle.sparse_parser.proofs.LineLaws.{blank_line}
use Rattle.sparse_parser.proofs.WordLaws.{words_only}
use Rattle.mtxkit_matrices.specs.declared.decimals.stage.Stage.{Stage}
use Rattle.mtxkit_matrices.specs.declared.decimals.stage.Stage.TheVariants.{Head, Sizes, Entries}
use Rattle.mtxkit_matrices.specs.ScaledTexts.{IsBlankOrComment, IsWrittenBelow, AreWrittenBelow}
use Rattle.mtxkit_matrices.specs.ScaledTexts.{AreLinesKept, integer_head}
use Rattle.mtxkit_matrices.specs.InnerRewriting.{AreBlankOrComment, IsStep, IsWrittenAt}
use Rattle.mtxkit_matrices.specs.InnerRewriting.{AreLinesWritten}
use Rattle.sparse_faults.proofs.LineLists.{blank_words, some_header, some_size}

-- ---- blank lines and comments

-- the words of a line that is neither
pub not_skipped : (words : List (List ℕ)) (word : List ℕ) (others : List (List ℕ))
    → words ≡ word ∷ others → is_content words ≡ true → AreBlankOrComment words → ⊥
not_skipped words word others e c (inl n) = cc
not_skipped words word others e c (inr n) = cc

-- the words of a blank line or a comment
pub passed_words : (line : List ℕ) → IsBlankOrComment line → AreBlankOrComment (words_of line)
passed_words line (inl blanks) = inl (blank_line line blanks)
passed_words line (inr (before, rest, blanks, e)) =
    inr (ap (λ (x : List ℕ). is_content (words_of x)) e ∙ comment_line before rest blanks)

-- a line with such words is a blank line or a comment
pub passed_line : (line : List ℕ) → AreBlankOrComment (words_of line) → IsBlankOrComment line
passed_line line skipped = by _ (contents_are (line ∷ []))
  where
    by : (contents : List (List (List ℕ))) → AreContents (line ∷ []) contents → IsBlankOrComment line
    by contents (inl h) = inl h.0
    by contents (inr (inl (before, rest, blanks, e, h))) = inr (before, rest, blanks, e)
    by contents (inr (inr (word, words, others, are, plain, e, h))) =
        let w = words_only line (word ∷ words) are in
        let c : is_content (words_of line) ≡ true = rw w (content_line word words plain) in
        absurd (not_skipped (words_of line) word words w c skipped)

-- such a line is written unchanged
pub same_at : (stage : Stage) (line : List ℕ) → AreBlankOrComment (words_of line)
    → IsWrittenAt stage stage line line
same_at Head line skipped = refl
same_at (Sizes h) line skipped = refl
same_at (Entries h) line skipped =
    record { unchanged = λ p. refl; spaced = λ n. absurd (n (passed_line line skipped)) }

-- ---- after one more line

all_more : (P : List ℕ → Type 0) (lines : List (List ℕ)) (line : List ℕ)
    → AllByRecursion P lines → P line → AllByRecursion P (lines ++ (line ∷ []))
all_more P [] line h p = (p, tt)
all_more P (first ∷ lines) line h p = (h.0, all_more P lines line h.1 p)

below_more : (lines written : List (List ℕ)) (line wrote : List ℕ) → AreWrittenBelow lines written
    → IsWrittenBelow line wrote → AreWrittenBelow (lines ++ (line ∷ [])) (written ++ (wrote ∷ []))
below_more [] [] line wrote h k = (k, tt)
below_more [] (b ∷ written) line wrote h k = absurd h
below_more (a ∷ lines) [] line wrote h k = absurd h
below_more (a ∷ lines) (b ∷ written) line wrote h k =
    (h.0, below_more lines written line wrote h.1 k)

module _ (blank : List (List ℕ)) (head : List ℕ) (between : List (List ℕ)) where
  unsized_more : (lines : List (List ℕ)) (line : List ℕ) → lines ≡ blank ++ (head ∷ between)
      → lines ++ (line ∷ []) ≡ blank ++ (head ∷ (between ++ (line ∷ [])))
  unsized_more lines line e =
      ap (λ (x : List (List ℕ)). x ++ (line ∷ [])) e ∙ append_assoc blank (head ∷ between) (line ∷ [])

  sized_more : (size : List ℕ) (below lines : List (List ℕ)) (line : List ℕ)
      → lines ≡ blank ++ (head ∷ (between ++ (size ∷ below)))
      → lines ++ (line ∷ []) ≡ blank ++ (head ∷ (between ++ (size ∷ (below ++ (line ∷ [])))))
  sized_more size below lines line e =
      ap (λ (x : List (List ℕ)). x ++ (line ∷ [])) e
      ∙ append_assoc blank (head ∷ (between ++ (size ∷ below))) (line ∷ [])
      ∙ ap (λ (x : List (List ℕ)). blank ++ (head ∷ x)) (append_assoc between (size ∷ below) (line ∷ []))

entries_more : (header : Header) (lines written : List (List ℕ)) (line wrote : List ℕ)
    → AreLinesKept header lines written → IsWrittenBelow line wrote
    → AreLinesKept header (lines ++ (line ∷ [])) (written ++ (wrote ∷ []))
entries_more header lines written line wrote h k = record {
  blank = h.blank;
  head = h.head;
  between = h.between;
  size = h.size;
  below = h.below ++ (line ∷ []);
  below' = h.below' ++ (wrote ∷ []);
  lines_are = sized_more h.blank h.head h.between h.size h.below lines line h.lines_are;
  written_are = sized_more h.blank (integer_head header) h.between h.size h.below' written wrote
      h.written_are;
  blanks = h.blanks;
  some = h.some;
  skipped = h.skipped;
  content = h.content;
  entries = below_more h.below h.below' line wrote h.entries k;
}

module _ (scale : ℕ) (next : Stage) (lines written : List (List ℕ)) (line wrote : List ℕ)
    (words : List (List ℕ)) where
  pub kept_more : (stage : Stage) → AreLinesWritten stage lines written
      → IsWrittenAt stage next line wrote → IsStep scale stage (words_of line) next words
      → AreLinesWritten next (lines ++ (line ∷ [])) (written ++ (wrote ∷ []))
  kept_more Head h k (inl (e, f, n)) =
      let same : wrote ≡ line = rw n at k in
      rw n (rw (h.0, same) refl, all_more AreBlanks lines line h.1 (blank_words line e))
  kept_more Head h k (inr (header, n, says, says', field, allowed)) =
      let same : wrote ≡ integer_head header = rw n at k in
      rw n (record {
        blank = lines;
        head = line;
        between = [];
        lines_are = refl;
        written_are = rw (h.0, same) refl;
        blanks = h.1;
        some = λ b. some_header (words_of line) header says (blank_line line b);
        skipped = tt;
      })
  kept_more (Sizes header) h k (inl (s, e, n)) =
      let same : wrote ≡ line = k in
      rw n (record {
        blank = h.blank;
        head = h.head;
        between = h.between ++ (line ∷ []);
        lines_are = unsized_more h.blank h.head h.between lines line h.lines_are;
        written_are = rw same
            (unsized_more h.blank (integer_head header) h.between written line h.written_are);
        blanks = h.blanks;
        some = h.some;
        skipped = all_more IsBlankOrComment h.between line h.skipped (passed_line line s);
      })
  kept_more (Sizes header) h k (inr (c, e, n, z, sizes)) =
      let same : wrote ≡ line = k in
      rw n (record {
        blank = h.blank;
        head = h.head;
        between = h.between;
        size = line;
        below = [];
        below' = [];
        lines_are = unsized_more h.blank h.head h.between lines line h.lines_are;
        written_are = rw same
            (unsized_more h.blank (integer_head header) h.between written line h.written_are);
        blanks = h.blanks;
        some = h.some;
        skipped = h.skipped;
        content = λ p. some_contents (passed_words line p);
        entries = tt;
      })
    where
      some_contents : AreBlankOrComment (words_of line) → ⊥
      some_contents (inl none) = some_size (words_of line) z none
      some_contents (inr comment) = cc
  kept_more (Entries header) h k (inl (s, e, n)) =
      rw n (entries_more header lines written line wrote h k)
  kept_more (Entries header) h k (inr (c, d, n, i, j, v)) =
      rw n (entries_more header lines written line wrote h k)
