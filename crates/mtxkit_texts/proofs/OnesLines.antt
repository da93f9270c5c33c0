-- A text of ones is written line by line.
use Rattle.std.proofs.Common.{◌≡◌, ℕ, Bool, true, false, List, [], ◌∷◌, ◌++◌, Option, Some, None}
use Rattle.std.proofs.Common.{refl, sym, ap, subst, ◌∙◌, append_assoc, append-nil}
use Rattle.sparse_parser.specs.declared.header.Header.{Header}
use Rattle.sparse_parser.specs.Grammar.{AreLines}
use Rattle.sparse_parser.specs.Header.{header_of}
use Rattle.sparse_parser.specs.InnerReading.{words_of}
use Rattle.sparse_faults.specs.InnerLines.{IsCut, IsEnded}
use Rattle.sparse_faults.proofs.CountedLines.{AreLines-first_line}
use Rattle.mtxkit_texts.specs.declared.ones.Stage.{Stage}
use Rattle.mtxkit_texts.specs.declared.ones.Stage.TheVariants.{Head, Sizes, Entries}
use Rattle.mtxkit_texts.specs.InnerOnes.{AreOnesAbove, next_stage, stage_lines, stage_words}
use Rattle.mtxkit_texts.specs.InnerOnes.{stage_under, words_under}
use Rattle.mtxkit_texts.specs.Ones.{AreOnesOf, ended, has_no_contents, lines_under}
use Rattle.mtxkit_texts.specs.Ones.{ones_lines, spaced}

-- what is written for a line, and then for the lines below it
stage_lines-first : (stage : Stage) (line : List ℕ) (lines : List (List ℕ))
    → stage_lines stage (line ∷ lines)
    ≡ spaced (stage_words stage (words_of line)) ∷ stage_lines (next_stage stage (words_of line)) lines
stage_lines-first Head line lines = by (header_of (words_of line))
  where
    by : (h : Option Header) → lines_under h lines (ones_lines lines)
        ≡ spaced (words_under h) ∷ stage_lines (stage_under h) lines
    by None = refl
    by (Some h) = refl
stage_lines-first (Sizes h) line lines = by (has_no_contents (words_of line)) refl
  where
    by : (t : Bool) → has_no_contents (words_of line) ≡ t
        → stage_lines (Sizes h) (line ∷ lines) ≡ spaced (stage_words (Sizes h) (words_of line))
        ∷ stage_lines (next_stage (Sizes h) (words_of line)) lines
    by true e = rw e refl
    by false e = rw e refl
stage_lines-first (Entries h) line lines = refl

module _ (text : List ℕ) where
  pub ones_begin : AreOnesAbove text Head text []
  ones_begin = record { before = []; read_is = λ behind h. h; written_is = λ behind. refl }

  pub ones_more : {stage : Stage} {rest line others rest' old new : List ℕ}
      → AreOnesAbove text stage rest old → IsCut rest line others → IsEnded others rest'
      → new ≡ old ++ spaced (stage_words stage (words_of line))
      → AreOnesAbove text (next_stage stage (words_of line)) rest' (new ++ (10 ∷ []))
  ones_more {stage} {rest} {line} {others} {rest'} {old} {new} a c e n = record {
    before = a.before ++ (line ∷ []);
    read_is = λ behind h. rw append_assoc
        (a.read_is (line ∷ behind) (AreLines-first_line c rest' behind e h));
    written_is = λ behind.
        ap (λ xs. ended (ones_lines xs)) (append_assoc a.before (line ∷ []) behind)
        ∙ a.written_is (line ∷ behind)
        ∙ ap (λ xs. old ++ ended xs) (stage_lines-first stage line behind)
        ∙ sym (whole (ended (stage_lines (next_stage stage (words_of line)) behind)));
  }
    where
      written : List ℕ
      written = spaced (stage_words stage (words_of line))

      regroup : (a b d : List ℕ) → ((a ++ b) ++ (10 ∷ [])) ++ d ≡ a ++ (b ++ (10 ∷ d))
      regroup a b d = simp append_assoc

      whole : (more : List ℕ) → (new ++ (10 ∷ [])) ++ more ≡ old ++ (written ++ (10 ∷ more))
      whole more = ap (λ xs. (xs ++ (10 ∷ [])) ++ more) n ∙ regroup old written more

  pub ones_end : {stage : Stage} {rest written : List ℕ} → AreOnesAbove text stage rest written
      → rest ≡ [] → AreOnesOf text written
  ones_end {stage} {rest} {written} a e = (
    a.before,
    (
      subst (AreLines text) (append-nil a.before) (a.read_is [] e),
      sym (append-nil written) ∙ ap (λ xs. written ++ xs) (sym (nothing stage))
          ∙ sym (a.written_is []) ∙ ap (λ xs. ended (ones_lines xs)) (append-nil a.before),
    ),
  )
    where
      nothing : (stage : Stage) → ended (stage_lines stage []) ≡ []
      nothing Head = refl
      nothing (Sizes h) = refl
      nothing (Entries h) = refl
