-- A line of a document, by the lines above it: the header line, the size line or a data line.
use Rattle.std.proofs.Common.{◌≡◌, ℕ, List, [], ◌∷◌, ◌++◌, Some, refl, sym, ap, ◌∙◌, inl, inr}
use Rattle.sparse_parser.specs.declared.header.Header.{Header}
use Rattle.sparse_parser.specs.Grammar.{AreContents, AreHeaded, AreLines, AreWords, IsHeaded}
use Rattle.sparse_parser.specs.Grammar.{IsDocument}
use Rattle.sparse_parser.specs.Header.{header_of}
use Rattle.sparse_parser.specs.InnerReading.{written_lines, written_of}
use Rattle.sparse_parser.proofs.ContentLaws.{contents_are, headed_only}
use Rattle.sparse_parser.proofs.LineLaws.{blank_line, lines_only}
use Rattle.sparse_io.proofs.OneMeaning.{headed_written, written_same}
use Rattle.sparse_faults.specs.InnerFirstFaults.{contents_in}
use Rattle.sparse_faults.specs.Lines.{AreBlankLines, IsContent}
use Rattle.mtxkit_matrices.specs.ScaleFailures.{AreBelowHeader}

-- ---- a line with contents below others

module _ (line : List ℕ) (behind : List (List ℕ)) (words : List (List ℕ)) (are : AreWords line words)
  where
    -- a line below blank lines
    headed_first : (before : List (List ℕ)) → AreBlankLines before → ¬ (words ≡ [])
        → AreHeaded (before ++ (line ∷ behind)) words (contents_in behind)
    headed_first [] blank some = by words are some
      where
        by : (ws : List (List ℕ)) → AreWords line ws → ¬ (ws ≡ [])
            → AreHeaded (line ∷ behind) ws (contents_in behind)
        by [] a n = absurd (n refl)
        by (word ∷ ws) a n = inr (word, ws, a, refl, contents_are behind)
    headed_first (first ∷ before) blank some = inl (blank.0, headed_first before blank.1 some)

    module _ (content : IsContent words) where
      abbrev pub more : List (List (List ℕ))
      more = words ∷ contents_in behind

      contents_first : (ws : List (List ℕ)) → AreWords line ws → IsContent ws
          → AreContents (line ∷ behind) (ws ∷ contents_in behind)
      contents_first [] a c = absurd c
      contents_first (word ∷ ws) a c =
          inr (inr (word, ws, contents_in behind, a, c, refl, contents_are behind))

      contents_more : (lines : List (List ℕ)) (contents : List (List (List ℕ)))
          → AreContents lines contents → AreContents (lines ++ (line ∷ behind)) (contents ++ more)
      contents_more [] contents h = rw h (contents_first words are content)
      contents_more (first ∷ lines) contents (inl h) = inl (h.0, contents_more lines contents h.1)
      contents_more (first ∷ lines) contents (inr (inl (before, rest, blanks, e, h))) =
          inr (inl (before, rest, blanks, e, contents_more lines contents h))
      contents_more (first ∷ lines) contents (inr (inr (word, ws, others, a, plain, e, h))) =
          inr (inr (
            word,
            ws,
            others ++ more,
            a,
            plain,
            ap (λ (x : List (List (List ℕ))). x ++ more) e,
            contents_more lines others h,
          ))

      headed_line : (lines head : List (List ℕ)) (contents : List (List (List ℕ)))
          → AreHeaded lines head contents
          → AreHeaded (lines ++ (line ∷ behind)) head (contents ++ more)
      headed_line [] head contents h = absurd h
      headed_line (first ∷ lines) head contents (inl h) =
          inl (h.0, headed_line lines head contents h.1)
      headed_line (first ∷ lines) head contents (inr (word, ws, a, e, h)) =
          inr (word, ws, a, e, contents_more lines contents h)

blank_lines : (lines : List (List ℕ)) → AreBlankLines lines → written_lines lines ≡ []
blank_lines [] blank = refl
blank_lines (line ∷ lines) blank = rw (blank_line line blank.0) (blank_lines lines blank.1)

-- ---- the lines of a document

module _ {text : List ℕ} {header : Header} {size : List (List ℕ)} {entries : List (List (List ℕ))}
    (d : IsDocument text header size entries) where
  -- a header and its contents are those of the document
  pub headed_same : (h : Header) (contents : List (List (List ℕ))) → IsHeaded text h contents
      → (h ≡ header) × (contents ≡ size ∷ entries)
  headed_same h contents headed =
      let w = headed_written text h contents headed in
      let p = written_same text w.words w.others (Some h) header (size ∷ entries) w.lines w.says
      d.headed in
      let q = p.0 in
      (cc, sym w.contents_are ∙ p.1)

  -- the first line that is not blank has the header
  pub first_line : (before : List (List ℕ)) (line : List ℕ) (behind words : List (List ℕ))
      → AreLines text (before ++ (line ∷ behind)) → AreBlankLines before → AreWords line words
      → ¬ (words ≡ []) → header_of words ≡ Some header
  first_line before line behind words cut blank are some =
      let lines = before ++ (line ∷ behind) in
      let b = headed_only lines words (contents_in behind)
      (headed_first line behind words are before blank some) in
      let e : written_of text ≡ words ∷ b.0 = sym (lines_only text lines cut) ∙ b.1 in
      (written_same text words b.0 (header_of words) header (size ∷ entries) e refl d.headed).0

  -- not all lines are blank
  pub some_line : (lines : List (List ℕ)) → AreLines text lines → AreBlankLines lines → ⊥
  some_line lines cut blank =
      let w = headed_written text header (size ∷ entries) d.headed in
      let none : written_of text ≡ [] = sym (lines_only text lines cut) ∙ blank_lines lines blank in
      let some = w.lines in
      cc

  -- a line below a header has the next one of the contents
  pub next_contents : (before : List (List ℕ)) (line : List ℕ) (behind words : List (List ℕ))
      → AreLines text (before ++ (line ∷ behind)) → (are : AreWords line words)
      → (content : IsContent words) → (h : Header) (contents : List (List (List ℕ)))
      → AreBelowHeader before h contents
      → (h ≡ header) × (contents ++ (words ∷ contents_in behind) ≡ size ∷ entries)
  next_contents before line behind words cut are content h contents below =
      headed_same h (contents ++ (words ∷ contents_in behind)) (record {
        lines = before ++ (line ∷ behind);
        words = below.words;
        cut = cut;
        headed = headed_line line behind words are content before below.words contents below.headed;
        says = below.says;
      })
