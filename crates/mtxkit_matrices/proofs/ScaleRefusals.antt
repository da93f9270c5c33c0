-- If the next line is refused, its text is refused at this line.
use Rattle.std.proofs.Common.{◌≡◌, ℕ, List, ◌++◌, [], ◌∷◌, length, get_or, eqb, Result}
use Rattle.std.proofs.Common.{true, refl, subst, inl, inr}
use Rattle.std.specs.Prelude.{IfErr, filter}
use Rattle.std.proofs.lemmas.Bool.{eqb-false, not-true}
use Rattle.std.proofs.lemmas.Result.{IfErr-weaker}
use Rattle.sparse_parser.specs.declared.header.Format.{Format}
use Rattle.sparse_parser.specs.declared.header.Format.TheVariants.{Coordinate, Array}
use Rattle.sparse_parser.specs.declared.header.Header.{Header}
use Rattle.sparse_parser.specs.Grammar.{AreHeaded, is_index, is_number}
use Rattle.sparse_parser.specs.InnerReading.{is_content, words_of, written_lines}
use Rattle.sparse_parser.proofs.ContentLaws.{headed_are}
use Rattle.mtxkit_matrices.specs.declared.decimals.error.ScaleError.{ScaleError}
use Rattle.mtxkit_matrices.specs.declared.decimals.error.ScaleError.TheVariants as errors
use Rattle.mtxkit_matrices.specs.declared.decimals.stage.Stage.{Stage}
use Rattle.mtxkit_matrices.specs.declared.decimals.stage.Stage.TheVariants.{Head, Sizes, Entries}
use Rattle.sparse_faults.specs.Lines.{IsContent}
use Rattle.mtxkit_matrices.specs.ScaleFailures.{AreBelowHeader, AreBelowSizes}
use Rattle.mtxkit_matrices.specs.ScaleFailures.{is_decimal_entry, EndsEarly, IsScaleFailure}
use Rattle.mtxkit_matrices.specs.InnerRewriting.{AreBelow, AreRewritten, IsTextWritten}
use Rattle.mtxkit_matrices.specs.InnerScaleFailures.{IsValueFailure, IsHeadFailure, IsSizesFailure}
use Rattle.mtxkit_matrices.specs.InnerScaleFailures.{IsEntryFailure, AreContent, IsLineFailure}
use Rattle.sparse_faults.proofs.CountedLines.{has_line}
use Rattle.sparse_faults.specs.InnerLines.{IsCut}
use Rattle.mtxkit_matrices.proofs.Rewriting.{lines_read}

-- ---- one line

pub coordinate_entry : (words : List (List ℕ)) (row col value : List ℕ)
    → words ≡ row ∷ col ∷ value ∷ [] → is_index row ≡ true → is_index col ≡ true
    → is_number value ≡ true → is_decimal_entry Coordinate words ≡ true
coordinate_entry words row col value e r c v = rw (e, r, c, v) refl

pub array_entry : (words : List (List ℕ)) (value : List ℕ) → words ≡ value ∷ []
    → is_number value ≡ true → is_decimal_entry Array words ≡ true
array_entry words value e v = rw (e, v) refl

module _ (scale number : ℕ) where
  pub value_failed : (format : Format) (words places : List (List ℕ)) (value : List ℕ)
      → words ≡ places ++ (value ∷ []) → is_decimal_entry format words ≡ true → (e : ScaleError)
      → IsValueFailure scale number value e → IsEntryFailure scale format number words e
  value_failed format words places value w i (errors.Fraction n least) h =
      (h.0, record { places = places; value = value; words_are = w; is = i; not = h.1 })
  value_failed format words places value w i (errors.Range n) h =
      (h.0, record { places = places; value = value; words_are = w; is = i; not = h.1 })
  value_failed format words places value w i e h = absurd h

  -- if an allocation failed, nothing is stated about the line
  pub memory_failed : {T : Type 0} (format : Format) (words : List (List ℕ))
      (r : Result T ScaleError) → IfErr r (λ e. e ≡ errors.OutOfMemory)
      → IfErr r (IsEntryFailure scale format number words)
  memory_failed format words r h = IfErr-weaker r _ _ (λ e k. rw k tt) h

  pub line_memory_failed : {T : Type 0} (stage : Stage) (words : List (List ℕ))
      (r : Result T ScaleError) → IfErr r (λ e. e ≡ errors.OutOfMemory)
      → IfErr r (IsLineFailure scale stage number words)
  line_memory_failed Head words r h = IfErr-weaker r _ _ (λ e k. rw k tt) h
  line_memory_failed (Sizes header) words r h = IfErr-weaker r _ _ (λ e k. inl k) h
  line_memory_failed (Entries header) words r h = IfErr-weaker r _ _ (λ e k. inl k) h

  pub sizes_refused : {T : Type 0} (h : Header) (words : List (List ℕ)) (r : Result T ScaleError)
      (stage : Stage)
      → IfErr r (λ e. (scale : ℕ) → IsLineFailure scale (Sizes h) number words e)
      → stage ≡ Sizes h → IfErr r (IsLineFailure scale stage number words)
  sizes_refused h words r stage k is = rw is (IfErr-weaker r _ _ (λ e f. f scale) k)

-- ---- the lines above it

below_header : (lines : List (List ℕ)) {wrote others more : List (List (List ℕ))} (h : Header)
    → AreBelow h (written_lines lines) wrote others more → (contents : List (List (List ℕ)))
    → filter is_content others ≡ contents → AreBelowHeader lines h contents
below_header lines {others = others} h b contents e = record {
  words = b.head;
  headed = subst (AreHeaded lines b.head) e (headed_are lines b.head others b.read_is);
  says = b.says;
  field = b.field;
  allowed = b.allowed;
}

module _ (scale : ℕ) (lines : List (List ℕ)) (wrote : List (List (List ℕ))) (h : Header) where
  above_sizes : AreRewritten scale (Sizes h) (written_lines lines) wrote
      → AreBelowHeader lines h []
  above_sizes r = below_header lines h r.1 [] r.2

  above_entries : AreRewritten scale (Entries h) (written_lines lines) wrote
      → AreBelowSizes scale lines h
  above_entries r = let es = r.3 in record {
    size = es.size;
    read = es.lines;
    wrote = es.entries;
    headed = below_header lines h r.2 (es.size ∷ es.lines) es.contents_are;
    sized = es.sized;
    sizes = es.sizes;
    listed = es.listed;
    values = es.values;
  }

pub content_words : (words : List (List ℕ)) → AreContent words → IsContent words
unfolding is_content
content_words [] a = a.some refl
content_words (word ∷ words) a = eqb-false _ _ (not-true (eqb (get_or word 0 0) 37) a.content)

-- ---- the text

module _ {rest line others : List ℕ} (c : IsCut rest line others) where
  module _ {scale : ℕ} {text : List ℕ} {number : ℕ} {old : List ℕ} where
    head_failed : (t : IsTextWritten scale text Head number rest old) (e : ScaleError)
        → IsHeadFailure number (words_of line) e → IsScaleFailure scale text e
    head_failed t (errors.Header at) h = has_line c t.above at.line h.0 _ (t.kept.1, h.1)
    head_failed t (errors.Field n) h = has_line c t.above n h.0 _ (t.kept.1, h.1)
    head_failed t (errors.Sizes at) h = absurd h
    head_failed t (errors.Entry n) h = absurd h
    head_failed t (errors.Fraction n least) h = absurd h
    head_failed t (errors.Range n) h = absurd h
    head_failed t errors.Ended h = absurd h
    head_failed t errors.OutOfMemory h = tt

    sizes_failed : (header : Header) (t : IsTextWritten scale text (Sizes header) number rest old)
        (e : ScaleError) → AreContent (words_of line)
        → IsSizesFailure header number (words_of line) e → IsScaleFailure scale text e
    sizes_failed header t (errors.Sizes at) a h = has_line c t.above at.line h.0 _
        (header, above_sizes scale t.before _ header t.are, content_words _ a, h.1)
    sizes_failed header t (errors.Header at) a h = absurd h
    sizes_failed header t (errors.Field n) a h = absurd h
    sizes_failed header t (errors.Entry n) a h = absurd h
    sizes_failed header t (errors.Fraction n least) a h = absurd h
    sizes_failed header t (errors.Range n) a h = absurd h
    sizes_failed header t errors.Ended a h = absurd h
    sizes_failed header t errors.OutOfMemory a h = tt

    entry_failed : (header : Header) (t : IsTextWritten scale text (Entries header) number rest old)
        (e : ScaleError) → AreContent (words_of line)
        → IsEntryFailure scale header.format number (words_of line) e
        → IsScaleFailure scale text e
    entry_failed header t (errors.Entry n) a h = has_line c t.above n h.0 _
        (header, above_entries scale t.before _ header t.are, content_words _ a, h.1)
    entry_failed header t (errors.Fraction n least) a h = has_line c t.above n h.0 _
        (header, above_entries scale t.before _ header t.are, content_words _ a, h.1)
    entry_failed header t (errors.Range n) a h = has_line c t.above n h.0 _
        (header, above_entries scale t.before _ header t.are, content_words _ a, h.1)
    entry_failed header t (errors.Header at) a h = absurd h
    entry_failed header t (errors.Field n) a h = absurd h
    entry_failed header t (errors.Sizes at) a h = absurd h
    entry_failed header t errors.Ended a h = absurd h
    entry_failed header t errors.OutOfMemory a h = tt

    pub text_failed : (stage : Stage) (t : IsTextWritten scale text stage number rest old)
        (e : ScaleError) → IsLineFailure scale stage number (words_of line) e
        → IsScaleFailure scale text e
    text_failed Head t e h = head_failed t e h
    text_failed (Sizes header) t e (inl m) = rw m tt
    text_failed (Sizes header) t e (inr (a, h)) = sizes_failed header t e a h
    text_failed (Entries header) t e (inl m) = rw m tt
    text_failed (Entries header) t e (inr (a, h)) = entry_failed header t e a h

-- the text ends before its size line
module _ {scale : ℕ} {text : List ℕ} {number : ℕ} {rest written : List ℕ} (empty : length rest ≡ 0)
  where
    pub ends_blank : IsTextWritten scale text Head number rest written → EndsEarly text
    ends_blank t = (t.before, lines_read t empty, inl t.kept.1)

    pub ends_unsized : (header : Header)
        → IsTextWritten scale text (Sizes header) number rest written → EndsEarly text
    ends_unsized header t = (
      t.before,
      lines_read t empty,
      inr (header, above_sizes scale t.before _ header t.are),
    )
