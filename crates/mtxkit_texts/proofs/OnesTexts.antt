-- The text of ones of a document with real or complex values is a document.
use Rattle.std.proofs.Common.{◌≡◌, ℕ, Bool, true, false, List, [], ◌∷◌, map}
use Rattle.std.proofs.Common.{Some, None, refl, sym, ap, ◌∙◌, inl, inr}
use Rattle.std.specs.Prelude.{filter}
use Rattle.std.specs.List.{AllByRecursion, list_all}
use Rattle.std.proofs.lemmas.Bool.{eqb-true, eqb-false}
use Rattle.sparse_algebra.proofs.Cases.{and_parts}
use Rattle.sparse_parser.specs.declared.header.Header.{Header}
use Rattle.sparse_parser.specs.Grammar.{AreLines, IsDocument, IsHeaded, IsOneLine}
use Rattle.sparse_parser.specs.Grammar.{is_entry, is_size}
use Rattle.sparse_parser.specs.Header.{header_of}
use Rattle.sparse_parser.specs.InnerReading.{is_content, words_of, written_lines}
use Rattle.sparse_parser.proofs.ContentLaws.{content_line, is_content-comment, lines_headed}
use Rattle.sparse_parser.proofs.LineLaws.{lines_only}
use Rattle.sparse_parser.proofs.WordLaws.{words_of-nil}
use Rattle.sparse_io.proofs.OneMeaning.{headed_written}
use Rattle.mtxkit_texts.specs.Headers.{is_supported_field}
use Rattle.mtxkit_texts.specs.Ones.{AreOnesOf, IsOnesText, copied, ended, entry_lines}
use Rattle.mtxkit_texts.specs.Ones.{has_no_contents, head_words, lines_below, one_words, ones_lines}
use Rattle.mtxkit_texts.specs.Ones.{spaced, with_ones}
use Rattle.mtxkit_texts.proofs.OnesContents.{IsWord, entry_ones, head_are_words, head_says}
use Rattle.mtxkit_texts.proofs.OnesContents.{plain-spaced, size_copied, words_of-spaced}

-- ---- lines

abbrev contents_in : List (List ℕ) → List (List (List ℕ))
contents_in lines = filter is_content (written_lines lines)

contents-first : (line : List ℕ) (lines : List (List ℕ)) → has_no_contents (words_of line) ≡ false
    → contents_in (line ∷ lines) ≡ words_of line ∷ contents_in lines
contents-first line lines s = by (words_of line) refl s
  where
    by : (words : List (List ℕ)) → words_of line ≡ words → has_no_contents words ≡ false
        → contents_in (line ∷ lines) ≡ words_of line ∷ contents_in lines
    by [] e k = absurd cc
    by (word ∷ words) e k = rw (e, content_line word words (eqb-false _ _ k)) refl

skipped_first : (line : List ℕ) (lines : List (List ℕ)) → has_no_contents (words_of line) ≡ true
    → contents_in (line ∷ lines) ≡ contents_in lines
skipped_first line lines s = by (words_of line) refl s
  where
    by : (words : List (List ℕ)) → words_of line ≡ words → has_no_contents words ≡ true
        → contents_in (line ∷ lines) ≡ contents_in lines
    by [] e k = rw e refl
    by (word ∷ words) e k = rw (e, is_content-comment word words (eqb-true _ _ k)) refl

blank_first : (lines : List (List ℕ)) → contents_in ([] ∷ lines) ≡ contents_in lines
blank_first lines = rw words_of-nil refl

written_first : (words : List (List ℕ)) (lines : List (List ℕ)) → AllByRecursion IsWord words
    → has_no_contents words ≡ false → contents_in (spaced words ∷ lines) ≡ words ∷ contents_in lines
written_first words lines w k =
    let e = words_of-spaced words w in
    contents-first (spaced words) lines (ap has_no_contents e ∙ k)
    ∙ ap (λ (ws : List (List ℕ)). ws ∷ contents_in lines) e

ended_lines : (lines : List (List ℕ)) → AllByRecursion IsOneLine lines → AreLines (ended lines) lines
ended_lines [] h = refl
ended_lines (line ∷ lines) h =
    (h.0, inr (10 ∷ [], ended lines, inl refl, refl, ended_lines lines h.1))

no_header : header_of [] ≡ None
unfolding header_of
no_header = refl

module _ (h : Header) (s : is_supported_field h.field ≡ false) where
  abbrev ones_of : List (List (List ℕ)) → List (List (List ℕ))
  ones_of lines = map (one_words h.format h.field) lines

  are_entries : (lines : List (List (List ℕ))) → list_all is_entry lines ≡ true
      → list_all is_entry (ones_of lines) ≡ true
  are_entries [] e = refl
  are_entries (words ∷ lines) e =
      let p = and_parts _ _ e in
      rw ((entry_ones h.format h.field words s p.0).entry, are_entries lines p.1) refl

  -- the contents of the lines that are written, each of which is one line
  record AreWritten (lines : List (List ℕ)) (contents : List (List (List ℕ))) : Type 0 where
    are : contents_in lines ≡ contents
    plain : AllByRecursion IsOneLine lines

  blank_more : {lines : List (List ℕ)} {contents : List (List (List ℕ))} → AreWritten lines contents
      → AreWritten ([] ∷ lines) contents
  blank_more {lines} w = record { are = blank_first lines ∙ w.are; plain = (tt, w.plain) }

  words_more : {lines : List (List ℕ)} {contents : List (List (List ℕ))} (words : List (List ℕ))
      → copied words ≡ words → AllByRecursion IsWord words → has_no_contents words ≡ false
      → AreWritten lines contents → AreWritten (spaced (copied words) ∷ lines) (words ∷ contents)
  words_more {lines} words c a k w = rw c (record {
    are = written_first words lines a k ∙ ap (λ (ws : List (List (List ℕ))). words ∷ ws) w.are;
    plain = (plain-spaced words a, w.plain);
  })

  entry_written : (line : List ℕ) (lines : List (List ℕ))
      → list_all is_entry (contents_in (line ∷ lines)) ≡ true
      → (list_all is_entry (contents_in lines) ≡ true
      → AreWritten (entry_lines h lines) (ones_of (contents_in lines)))
      → (t : Bool) → has_no_contents (words_of line) ≡ t
      → AreWritten (entry_lines h (line ∷ lines)) (ones_of (contents_in (line ∷ lines)))
  entry_written line lines e others true k =
      let c = skipped_first line lines k in
      rw (k, c) (blank_more (others (ap (list_all is_entry) (sym c) ∙ e)))
  entry_written line lines e others false k =
      let c = contents-first line lines k in
      let p = and_parts _ _ (ap (list_all is_entry) (sym c) ∙ e) in
      let o = entry_ones h.format h.field (words_of line) s p.0 in
      rw (k, c) (words_more (one_words h.format h.field (words_of line)) o.same o.are o.kept
      (others p.1))

  entries_written : (lines : List (List ℕ)) → list_all is_entry (contents_in lines) ≡ true
      → AreWritten (entry_lines h lines) (ones_of (contents_in lines))
  entries_written [] e = record { are = refl; plain = tt }
  entries_written (line ∷ lines) e =
      entry_written line lines e (entries_written lines) (has_no_contents (words_of line)) refl

  module _ (size : List (List ℕ)) (entries : List (List (List ℕ))) (z : is_size size ≡ true)
      (a : list_all is_entry entries ≡ true) where
    size_written : (line : List ℕ) (lines : List (List ℕ))
        → contents_in (line ∷ lines) ≡ size ∷ entries
        → (contents_in lines ≡ size ∷ entries
        → AreWritten (lines_below h lines) (size ∷ ones_of entries))
        → (t : Bool) → has_no_contents (words_of line) ≡ t
        → AreWritten (lines_below h (line ∷ lines)) (size ∷ ones_of entries)
    size_written line lines e others true k =
        rw k (blank_more (others (sym (skipped_first line lines k) ∙ e)))
    size_written line lines e others false k =
        let c : words_of line ∷ contents_in lines ≡ size ∷ entries =
        sym (contents-first line lines k) ∙ e in
        let first : words_of line ≡ size = cc in
        let below : contents_in lines ≡ entries = cc in
        let p = size_copied size z in
        rw (k, first) (words_more size p.0 p.1 (ap has_no_contents (sym first) ∙ k)
        (rw below at (entries_written lines (ap (list_all is_entry) below ∙ a))))

    below_written : (lines : List (List ℕ)) → contents_in lines ≡ size ∷ entries
        → AreWritten (lines_below h lines) (size ∷ ones_of entries)
    below_written [] e = absurd cc
    below_written (line ∷ lines) e =
        size_written line lines e (below_written lines) (has_no_contents (words_of line)) refl

  -- the lines from the header on
  record AreHeaded (lines : List (List ℕ)) (contents : List (List (List ℕ))) : Type 0 where
    others : List (List (List ℕ))
    lines_are : written_lines lines ≡ head_words h ∷ others
    contents_are : filter is_content others ≡ contents
    plain : AllByRecursion IsOneLine lines

  module _ (size : List (List ℕ)) (entries : List (List (List ℕ))) (z : is_size size ≡ true)
      (a : list_all is_entry entries ≡ true) (words : List (List ℕ))
      (others : List (List (List ℕ))) (g : header_of words ≡ Some h)
      (c : filter is_content others ≡ size ∷ entries) where
    first_written : (line : List ℕ) (lines : List (List ℕ))
        → written_lines (line ∷ lines) ≡ words ∷ others
        → (written_lines lines ≡ words ∷ others
        → AreHeaded (ones_lines lines) (size ∷ ones_of entries))
        → (ws : List (List ℕ)) → words_of line ≡ ws
        → AreHeaded (ones_lines (line ∷ lines)) (size ∷ ones_of entries)
    first_written line lines l more [] e =
        let w = more (rw e at l) in
        rw (e, no_header) (record {
          others = w.others;
          lines_are = rw words_of-nil w.lines_are;
          contents_are = w.contents_are;
          plain = (tt, w.plain);
        })
    first_written line lines l more (word ∷ ws) e =
        let k : (word ∷ ws) ∷ written_lines lines ≡ words ∷ others = rw e at l in
        let first : word ∷ ws ≡ words = cc in
        let rest : written_lines lines ≡ others = cc in
        let w = below_written size entries z a lines (ap (filter is_content) rest ∙ c) in
        let q = words_of-spaced (head_words h) (head_are_words h) in
        let under : ones_lines (line ∷ lines) ≡ spaced (head_words h) ∷ lines_below h lines =
        rw (e, first, g) refl in
        rw under (record {
          others = written_lines (lines_below h lines);
          lines_are = rw q refl;
          contents_are = w.are;
          plain = (plain-spaced (head_words h) (head_are_words h), w.plain);
        })

    head_written : (lines : List (List ℕ)) → written_lines lines ≡ words ∷ others
        → AreHeaded (ones_lines lines) (size ∷ ones_of entries)
    head_written [] l = absurd cc
    head_written (line ∷ lines) l =
        first_written line lines l (head_written lines) (words_of line) refl

  pub ones_document : (text ones : List ℕ) (size : List (List ℕ)) (entries : List (List (List ℕ)))
      → IsDocument text h size entries → AreOnesOf text ones → IsOnesText text ones
  ones_document text ones size entries d a =
      let lines = a.0 in
      let w = headed_written text h (size ∷ entries) d.headed in
      let o = head_written size entries d.sized d.listed w.words w.others w.says w.contents_are
      lines (lines_only text lines a.1.0 ∙ w.lines) in
      let cut : AreLines ones (ones_lines lines) =
      rw (a.1.1) (ended_lines (ones_lines lines) o.plain) in
      let headed : IsHeaded ones (with_ones h) (filter is_content o.others) =
      lines_headed ones (head_words h) o.others (with_ones h)
      (sym (lines_only ones (ones_lines lines) cut) ∙ o.lines_are)
      (head_says h.format h.symmetry) in
      record {
        header = h;
        size = size;
        lines = entries;
        read = d;
        wrote = record {
          headed = rw o.contents_are at headed;
          sized = d.sized;
          listed = are_entries entries d.listed;
        };
        by_lines = a;
      }
