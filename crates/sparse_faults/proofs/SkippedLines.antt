-- Lines that are skipped, and the contents of lines that grow.
use Rattle.std.proofs.Common.{◌≡◌, ◌≢◌, ℕ, true, false, List, [], ◌∷◌, ◌++◌, map, Some, refl, ap}
use Rattle.std.proofs.Common.{subst, ◌∙◌}
use Rattle.std.specs.Prelude.{filter}
use Rattle.std.proofs.lemmas.Bool.{eqb-true, eqb-false}
use Rattle.std.proofs.lemmas.List.{map-append}
use Rattle.std.proofs.lemmas.List.Elements.{filter-append}
use Rattle.sparse_parser.specs.declared.header.Header.{Header}
use Rattle.sparse_parser.specs.Grammar.{AreHeaded}
use Rattle.sparse_parser.specs.Header.{header_of}
use Rattle.sparse_parser.specs.InnerReading.{is_content, is_some_line, words_of, written_lines}
use Rattle.sparse_parser.proofs.ContentLaws.{content_line, headed_are, is_content-comment}
use Rattle.sparse_faults.specs.Lines.{IsContent, AreBlankLines}
use Rattle.sparse_faults.proofs.LineLists.{blank_words, lines_more, ones-some, some_header}
use Rattle.sparse_faults.specs.FirstFaults.{HaveContents}
use Rattle.sparse_faults.specs.InnerFirstFaults.{is_skipped, AreSkippedLines, AreHeadedBy, contents_in}

-- ---- words that are skipped or kept

no_words : (words : List (List ℕ)) → is_skipped false words ≡ true → words ≡ []
no_words [] e = refl
no_words (word ∷ words) e = absurd cc

pub some_words : (comments : _) (words : List (List ℕ)) → is_skipped comments words ≡ false
    → words ≢ []
some_words comments [] e n = cc
some_words comments (word ∷ words) e n = cc

pub content_words : (words : List (List ℕ)) → is_skipped true words ≡ false → IsContent words
content_words [] e = absurd cc
content_words (word ∷ words) e = eqb-false _ _ e

-- ---- lines that are skipped

pub skipped_more : (comments : _) (lines : List (List ℕ)) (line : List ℕ)
    → AreSkippedLines comments lines → is_skipped comments (words_of line) ≡ true
    → AreSkippedLines comments (lines ++ (line ∷ []))
skipped_more comments [] line h e = (e, tt)
skipped_more comments (first ∷ lines) line h e = (h.0, skipped_more comments lines line h.1 e)

pub skipped_blank : (lines : List (List ℕ)) → AreSkippedLines false lines → AreBlankLines lines
skipped_blank [] h = tt
skipped_blank (line ∷ lines) h =
    (blank_words line (no_words (words_of line) h.0), skipped_blank lines h.1)

skipped_written : (lines : List (List ℕ)) → AreSkippedLines false lines → written_lines lines ≡ []
skipped_written [] h = refl
skipped_written (line ∷ lines) h =
    rw (no_words (words_of line) h.0) (skipped_written lines h.1)

pub skipped_contents : (lines : List (List ℕ)) → AreSkippedLines true lines → contents_in lines ≡ []
skipped_contents [] h = refl
skipped_contents (line ∷ lines) h = by (words_of line) refl h.0 (skipped_contents lines h.1)
  where
    by : (words : List (List ℕ)) → words_of line ≡ words → is_skipped true words ≡ true
        → contents_in lines ≡ [] → contents_in (line ∷ lines) ≡ []
    by [] e s none = rw e none
    by (word ∷ words) e s none = rw (e, is_content-comment word words (eqb-true _ _ s)) none

-- ---- the contents of more lines

written-append : (xs ys : List (List ℕ))
    → written_lines (xs ++ ys) ≡ written_lines xs ++ written_lines ys
written-append xs ys = ap (filter is_some_line) (map-append words_of xs ys)
    ∙ filter-append is_some_line (map words_of xs) (map words_of ys)

pub contents-append : (xs ys : List (List ℕ))
    → contents_in (xs ++ ys) ≡ contents_in xs ++ contents_in ys
contents-append xs ys = ap (filter is_content) (written-append xs ys)
    ∙ filter-append is_content (written_lines xs) (written_lines ys)

pub contents-first : (line : List ℕ) (lines : List (List ℕ)) → is_skipped true (words_of line) ≡ false
    → contents_in (line ∷ lines) ≡ words_of line ∷ contents_in lines
contents-first line lines s = by (words_of line) refl s
  where
    by : (words : List (List ℕ)) → words_of line ≡ words → is_skipped true words ≡ false
        → contents_in (line ∷ lines) ≡ words_of line ∷ contents_in lines
    by [] e s = absurd cc
    by (word ∷ words) e s = rw (e, content_line word words (eqb-false _ _ s)) refl

-- ---- lines below a header

pub headed_first : (lines : List (List ℕ)) (line : List ℕ) (h : Header)
    → AreSkippedLines false lines → header_of (words_of line) ≡ Some h
    → AreHeadedBy (lines ++ (line ∷ [])) h []
headed_first lines line h s e = record {
  head = words_of line;
  others = [];
  lines_are = lines_more lines line
      ∙ rw (skipped_written lines s, ones-some (words_of line) (some_header (words_of line) h e))
      refl;
  says = e;
  contents_are = refl;
}

pub headed_more : {lines : List (List ℕ)} {h : Header} {contents : List (List (List ℕ))}
    → AreHeadedBy lines h contents → (more : List (List ℕ))
    → AreHeadedBy (lines ++ more) h (contents ++ contents_in more)
headed_more {lines = lines} a more = record {
  head = a.head;
  others = a.others ++ written_lines more;
  lines_are = written-append lines more ∙ rw a.lines_are refl;
  says = a.says;
  contents_are = filter-append is_content a.others (written_lines more) ∙ rw a.contents_are refl;
}

pub have_contents : {lines : List (List ℕ)} {h : Header} {contents : List (List (List ℕ))}
    → AreHeadedBy lines h contents → HaveContents lines h contents
have_contents {lines = lines} a = record {
  words = a.head;
  headed = subst (AreHeaded lines a.head) a.contents_are
      (headed_are lines a.head a.others a.lines_are);
  says = a.says;
}
