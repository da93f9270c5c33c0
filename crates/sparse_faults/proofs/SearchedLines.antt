-- The lines below a size line that a search has passed.
use Rattle.std.proofs.Common.{◌≡◌, ℕ, ◌+◌, true, false, List, ◌∷◌, ◌++◌, length, Some, Result}
use Rattle.std.proofs.Common.{refl, sym, ap, ◌∙◌, inl, inr}
use Rattle.std.proofs.Math.Bool.{and-true}
use Rattle.sparse_parser.specs.declared.error.Cause.{Cause}
use Rattle.sparse_parser.specs.declared.header.Header.{Header}
use Rattle.sparse_parser.specs.declared.size.Size.{Size}
use Rattle.sparse_parser.specs.Grammar.{IsHeaded, IsDocument, is_entry}
use Rattle.sparse_parser.specs.InnerReading.{words_of}
use Rattle.sparse_parser.proofs.LineLaws.{some_lines}
use Rattle.sparse_io.proofs.OneMeaning.{headed_written, written_same}
use Rattle.sparse_faults.specs.InnerLines.{AreAbove}
use Rattle.sparse_faults.specs.Lines.{HasLine, IsContent}
use Rattle.sparse_faults.proofs.CountedLines.{AreLines-first_line, above_both, has_line}
use Rattle.sparse_faults.proofs.LineEnds.{cut_ends, some_next}
use Rattle.sparse_faults.specs.declared.line_faults.Search.{Search}
use Rattle.sparse_faults.specs.declared.line_faults.Search.TheVariants.{Grammar}
use Rattle.sparse_faults.specs.FirstFaults.{HaveEntries, IsGrammarFault}
use Rattle.sparse_faults.specs.InnerFirstFaults.{AllPass, AreEntries, AreHeadedBy, AreSizes, IsFailing}
use Rattle.sparse_faults.specs.InnerFirstFaults.{contents_in, passes}
use Rattle.sparse_faults.proofs.SkippedLines.{content_words, contents-first, headed_more}
use Rattle.sparse_faults.proofs.SkippedLines.{have_contents}

passes_grammar : (words : List (List ℕ)) → passes Grammar words ≡ true
unfolding passes
passes_grammar words = refl

module _ {text below : List ℕ} {h : Header} {head_line size_line : ℕ} {r : Result Size Cause}
    (z : AreSizes text h head_line r size_line below) where
  -- the data lines of the text, if the search finds no fault
  pub all_pass : {search : Search} {count : ℕ} → AllPass search below count
      → (lines : List (List (List ℕ))) × IsDocument text h z.size lines
      × (count ≡ length lines) × AreEntries search lines
  all_pass p =
      let headed = have_contents (headed_more z.are p.lines) in (
        contents_in p.lines,
        record {
          headed = record {
            lines = z.lines ++ p.lines;
            words = headed.words;
            cut = z.above.read_is p.lines p.are;
            headed = headed.headed;
            says = headed.says;
          };
          sized = z.sized;
          listed = p.entries.listed;
        },
        p.counted,
        p.entries,
      )

  module _ {search : Search} {n : ℕ} (f : IsFailing search below (size_line + 1) n) where
    above : AreAbove text 1 (z.lines ++ f.before) n f.rest
    above = above_both z.above f.above

    headed : AreHeadedBy (z.lines ++ f.before) h (z.size ∷ contents_in f.before)
    headed = headed_more z.are f.before

    have_entries : HaveEntries (z.lines ++ f.before) h z.size (contents_in f.before)
    have_entries =
        record { contents = have_contents headed; sized = z.sized; listed = f.entries.listed }

    -- the line with the fault, given what is stated of the data lines above it and of its words
    pub failing_line : (AreSuch : List (List (List ℕ)) → List (List ℕ) → Type 0)
        → AreSuch (contents_in f.before) (words_of f.line)
        → HasLine text n (λ above words. (read : List (List (List ℕ)))
        × HaveEntries above h z.size read × IsContent words × AreSuch read words)
    failing_line AreSuch such = has_line f.cut above n refl _
        (contents_in f.before, have_entries, content_words (words_of f.line) f.content, such)

    -- the data lines of the text are those above the line, it, and more
    pub failing_among : (lines : List (List (List ℕ))) → IsDocument text h z.size lines
        → (more : List (List (List ℕ)))
        × (lines ≡ contents_in f.before ++ (words_of f.line ∷ more))
    failing_among lines d =
        let next = some_next f.others (cut_ends f.cut) in
        let behind = some_lines next.0 in
        let whole = headed_more headed (f.line ∷ behind.0) in
        let contents = have_contents whole in
        let is : IsHeaded text h ((z.size ∷ contents_in f.before)
        ++ contents_in (f.line ∷ behind.0)) = record {
          lines = (z.lines ++ f.before) ++ (f.line ∷ behind.0);
          words = contents.words;
          cut = above.read_is (f.line ∷ behind.0)
              (AreLines-first_line f.cut next.0 behind.0 next.1 behind.1);
          headed = contents.headed;
          says = contents.says;
        } in
        let w = headed_written text h (z.size ∷ lines) d.headed in
        let p = written_same text w.words w.others (Some h) h _ w.lines w.says is in
        let e : z.size ∷ lines ≡ z.size ∷ (contents_in f.before ++ contents_in (f.line ∷ behind.0)) =
        sym w.contents_are ∙ p.1 in
        let l : lines ≡ contents_in f.before ++ contents_in (f.line ∷ behind.0) = cc in (
          contents_in behind.0,
          l
              ∙ ap (λ (x : List (List (List ℕ))). contents_in f.before ++ x)
              (contents-first f.line behind.0 f.content),
        )

  -- a line that is no data line
  pub no_entry_line : {n : ℕ} → IsFailing Grammar below (size_line + 1) n → IsGrammarFault text n
  no_entry_line f =
      let none : is_entry (words_of f.line) ≡ false =
      sym (rw (passes_grammar (words_of f.line)) (and-true (is_entry (words_of f.line)))) ∙ f.fails in
      let l = failing_line f (λ read words. is_entry words ≡ false) none in
      inr (inr (inl (l.0, l.1, l.2, l.3, (h, z.size, l.4.0, l.4.1, l.4.2, l.4.3))))
