-- A text is written again line by line.
use Rattle.std.proofs.Common.{◌≡◌, ℕ, ◌+◌, List, [], ◌∷◌, ◌++◌, length, refl, sym, ap, subst}
use Rattle.std.proofs.Common.{◌∙◌, inl, inr, append_assoc, append-nil}
use Rattle.std.specs.List.{flat_map}
use Rattle.std.proofs.lemmas.List.{nil_from_length, flat_map_more}
use Rattle.sparse_parser.specs.declared.header.Header.{Header}
use Rattle.sparse_parser.specs.Grammar.{AreLines, is_entry}
use Rattle.sparse_parser.specs.InnerReading.{words_of, written_lines, written_of}
use Rattle.sparse_parser.proofs.ContentLaws.{lines_headed}
use Rattle.sparse_parser.proofs.LineLaws.{lines_only}
use Rattle.mtxkit_matrices.specs.declared.decimals.stage.Stage.{Stage}
use Rattle.mtxkit_matrices.specs.declared.decimals.stage.Stage.TheVariants.{Head, Sizes, Entries}
use Rattle.mtxkit_matrices.specs.ScaledTexts.{IsScaledText, with_integers, ended_line}
use Rattle.sparse_faults.specs.InnerLines.{IsCut, IsEnded}
use Rattle.mtxkit_matrices.specs.InnerRewriting.{IsStep, AreBelow}
use Rattle.mtxkit_matrices.specs.InnerRewriting.{AreRewritten, IsLineWritten, IsTextWritten}
use Rattle.sparse_faults.proofs.CountedLines.{above_none, above_line}
use Rattle.mtxkit_matrices.proofs.KeptLines.{kept_more}
use Rattle.mtxkit_matrices.proofs.GrownLists.{nothing-more, scaled_more}
use Rattle.sparse_faults.proofs.LineLists.{ones, ones-some, lines_more, one-more}
use Rattle.sparse_faults.proofs.LineLists.{all_more, some_header, some_size, some_entry}

-- ---- after one more line

below_more : {h : Header} {read wrote others more : List (List (List ℕ))}
    → AreBelow h read wrote others more → (a b : List (List (List ℕ)))
    → AreBelow h (read ++ a) (wrote ++ b) (others ++ a) (more ++ b)
below_more l a b = record {
  head = l.head;
  head' = l.head';
  read_is = rw l.read_is refl;
  wrote_is = rw l.wrote_is refl;
  says = l.says;
  says' = l.says';
  field = l.field;
  allowed = l.allowed;
}

module _ (scale : ℕ) (next : Stage) (read wrote : List (List (List ℕ)))
    (words written : List (List ℕ)) where
  pub line_more : (stage : Stage) → AreRewritten scale stage read wrote
      → IsStep scale stage words next written
      → AreRewritten scale next (read ++ ones words) (wrote ++ ones written)
  line_more Head (r, w) (inl (e, f, n)) = rw (n, r, w, e, f) (refl, refl)
  line_more Head (r, w) (inr (h, n, says, says', field, allowed)) = rw n (
    [],
    record {
      head = words;
      head' = written;
      read_is = rw (r, ones-some words (some_header words h says)) refl;
      wrote_is = rw (w, ones-some written (some_header written (with_integers h) says')) refl;
      says = says;
      says' = says';
      field = field;
      allowed = allowed;
    },
    refl,
  )
  line_more (Sizes h) (others, below, none) (inl (s, e, n)) = rw (n, e) (
    others ++ ones words,
    below_more below (ones words) (ones words),
    nothing-more others words s ∙ none,
  )
  line_more (Sizes h) (others, below, none) (inr (c, e, n, z, sizes)) =
      let one = one-more others words (some_size words z) c ∙ rw none refl in
      rw (n, e) (
        others ++ ones words,
        others ++ ones words,
        below_more below (ones words) (ones words),
        record {
          size = words;
          lines = [];
          entries = [];
          contents_are = one;
          contents'_are = one;
          sized = z;
          sizes = sizes;
          listed = refl;
          listed' = refl;
          values = tt;
        },
      )
  line_more (Entries h) (others, more, below, es) (inl (s, e, n)) = rw (n, e) (
    others ++ ones words,
    more ++ ones words,
    below_more below (ones words) (ones words),
    record {
      size = es.size;
      lines = es.lines;
      entries = es.entries;
      contents_are = nothing-more others words s ∙ es.contents_are;
      contents'_are = nothing-more more words s ∙ es.contents'_are;
      sized = es.sized;
      sizes = es.sizes;
      listed = es.listed;
      listed' = es.listed';
      values = es.values;
    },
  )
  line_more (Entries h) (others, more, below, es) (inr (c, c', n, i, i', v)) = rw n (
    others ++ ones words,
    more ++ ones written,
    below_more below (ones words) (ones written),
    record {
      size = es.size;
      lines = es.lines ++ (words ∷ []);
      entries = es.entries ++ (written ∷ []);
      contents_are = one-more others words (some_entry words i) c ∙ rw es.contents_are refl;
      contents'_are = one-more more written (some_entry written i') c' ∙ rw es.contents'_are refl;
      sized = es.sized;
      sizes = es.sizes;
      listed = all_more is_entry es.lines words es.listed i;
      listed' = all_more is_entry es.entries written es.listed' i';
      values = scaled_more scale h.format es.lines es.entries words written es.values v;
    },
  )

-- ---- the text

module _ (scale : ℕ) (text : List ℕ) where
  pub text_begins : IsTextWritten scale text Head 1 text []
  text_begins = record {
    before = [];
    wrote = [];
    above = above_none text 1;
    wrote_is = λ more behind h. h;
    ends = refl;
    are = (refl, refl);
    kept = (refl, tt);
  }

  pub text_more : {stage next : Stage} {number : ℕ} {rest line others rest' old new : List ℕ}
      → IsTextWritten scale text stage number rest old → IsCut rest line others
      → IsEnded others rest' → IsLineWritten scale stage line next old new
      → IsTextWritten scale text next (number + 1) rest' (new ++ (10 ∷ []))
  text_more {stage} {next} {number} {rest} {line} {others} {rest'} {old} {new} t c e w = record {
    before = t.before ++ (line ∷ []);
    wrote = t.wrote ++ (w.written ∷ []);
    above = above_line c rest' t.above e;
    wrote_is = λ more behind h. rw (append_assoc t.wrote (w.written ∷ []) behind)
        (subst (λ (x : List ℕ). AreLines x (t.wrote ++ (w.written ∷ behind)))
        (sym (whole more)) (t.wrote_is (w.written ++ (10 ∷ more)) (w.written ∷ behind)
        (w.plain, inr (10 ∷ [], more, inl refl, refl, h))));
    ends = ap (λ (x : List ℕ). x ++ (10 ∷ [])) (w.appended ∙ rw t.ends refl)
        ∙ append_assoc (flat_map ended_line t.wrote) w.written (10 ∷ [])
        ∙ flat_map_more ended_line [] t.wrote w.written;
    are = subst (AreRewritten scale next (written_lines (t.before ++ (line ∷ []))))
        (sym (lines_more t.wrote w.written))
        (subst (λ (x : List (List (List ℕ))). AreRewritten scale next x
        (written_lines t.wrote ++ ones (words_of w.written))) (sym (lines_more t.before line))
        (line_more scale next (written_lines t.before) (written_lines t.wrote) (words_of line)
        (words_of w.written) stage t.are w.step));
    kept = kept_more scale next t.before t.wrote line w.written (words_of w.written) stage t.kept
        w.kept w.step;
  }
    where
      regroup : (a b d : List ℕ) → ((a ++ b) ++ (10 ∷ [])) ++ d ≡ a ++ (b ++ (10 ∷ d))
      regroup a b d = simp append_assoc

      whole : (more : List ℕ) → (new ++ (10 ∷ [])) ++ more ≡ old ++ (w.written ++ (10 ∷ more))
      whole more = ap (λ (x : List ℕ). (x ++ (10 ∷ [])) ++ more) w.appended
          ∙ regroup old w.written more

-- ---- after the last line

module _ {scale : ℕ} {text : List ℕ} {stage : Stage} {number : ℕ} {rest written : List ℕ}
    (t : IsTextWritten scale text stage number rest written) (empty : length rest ≡ 0) where
  pub lines_read : AreLines text t.before
  lines_read = subst (AreLines text) (append-nil t.before)
      (t.above.read_is [] (nil_from_length rest empty))

  lines_wrote : AreLines written t.wrote
  lines_wrote = subst (λ (x : List ℕ). AreLines x t.wrote) (append-nil written)
      (subst (AreLines (written ++ [])) (append-nil t.wrote) (t.wrote_is [] [] refl))

pub text_ends : (scale : ℕ) (text : List ℕ) (number : ℕ) (rest written : List ℕ) (h : Header)
    → IsTextWritten scale text (Entries h) number rest written → length rest ≡ 0
    → IsScaledText scale text written
text_ends scale text number rest written h t empty =
    let others = t.are.0 in
    let more = t.are.1 in
    let below = t.are.2 in
    let es = t.are.3 in
    let r : written_of text ≡ below.head ∷ others =
    sym (lines_only text t.before (lines_read t empty)) ∙ below.read_is in
    let w : written_of written ≡ below.head' ∷ more =
    sym (lines_only written t.wrote (lines_wrote t empty)) ∙ below.wrote_is in
    record {
      header = h;
      size = es.size;
      lines = es.lines;
      entries = es.entries;
      read = record {
        headed = rw es.contents_are
            at (lines_headed text below.head others h r below.says);
        sized = es.sized;
        listed = es.listed;
      };
      field = below.field;
      allowed = below.allowed;
      sizes = es.sizes;
      wrote = record {
        headed = rw es.contents'_are
            at (lines_headed written below.head' more (with_integers h) w below.says');
        sized = es.sized;
        listed = es.listed';
      };
      values = es.values;
      by_lines = record {
        lines = t.before;
        lines' = t.wrote;
        read = lines_read t empty;
        wrote = lines_wrote t empty;
        ends = t.ends;
        kept = t.kept;
      };
    }
