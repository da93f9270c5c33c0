-- The header and the size line of a text, or the line that is none.
use Rattle.std.proofs.Common.{◌≡◌, ℕ, ◌+◌, ◌-◌, max, true, false, List, [], ◌∷◌, ◌++◌, length}
use Rattle.std.proofs.Common.{Some, None, Result, refl, subst, inl, inr, arith}
use Rattle.std.proofs.Common.{append-nil}
use Rattle.sparse_parser.specs.declared.error.Cause.{Cause}
use Rattle.sparse_parser.specs.declared.header.Header.{Header}
use Rattle.sparse_parser.specs.declared.size.Size.{Size}
use Rattle.sparse_parser.specs.Grammar.{AreLines}
use Rattle.sparse_parser.specs.Header.{header_of}
use Rattle.sparse_parser.specs.InnerReading.{words_of, size_numbers, size_at}
use Rattle.sparse_parser.proofs.LineShapes.{size_some, size_none}
use Rattle.sparse_faults.specs.InnerLines.{AreAbove}
use Rattle.sparse_faults.proofs.CountedLines.{above_line, above_both, has_line}
use Rattle.sparse_faults.specs.FirstFaults.{IsGrammarFault, last_number}
use Rattle.sparse_faults.specs.InnerFirstFaults.{AreSkipped, IsFirstLine, AreHeadedBy, IsHead, AreSizes}
use Rattle.sparse_faults.specs.InnerFirstFaults.{contents_in}
use Rattle.sparse_faults.proofs.SkippedLines.{some_words, content_words, skipped_blank}
use Rattle.sparse_faults.proofs.SkippedLines.{skipped_contents, contents-first}
use Rattle.sparse_faults.proofs.SkippedLines.{headed_first, headed_more, have_contents}

-- ---- the end of a text

last_is : (lines : List (List ℕ)) (end n : ℕ) → end ≡ 1 + length lines → n ≡ max (end - 1) 1
    → n ≡ last_number lines
last_is [] end n e m = omega arith
last_is (line ∷ lines) end n e m = omega arith

pub lines_above : {text : List ℕ} {first number : ℕ} {lines : List (List ℕ)}
    → AreAbove text first lines number [] → AreLines text lines
lines_above {text} {lines = lines} a = subst (AreLines text) (append-nil lines) (a.read_is [] refl)

-- ---- the header

module _ {text line below : List ℕ} {number : ℕ} (f : IsFirstLine false text 1 line number below)
  where
    pub head_line : (h : Header) → header_of (words_of line) ≡ Some h → IsHead text h number below
    head_line h e = record {
      lines = f.skipped.lines ++ (line ∷ []);
      above = above_line f.cut below f.skipped.above f.ended;
      are = headed_first f.skipped.lines line h f.skipped.are e;
      at = has_line f.cut f.skipped.above number refl _
          (skipped_blank f.skipped.lines f.skipped.are, e);
      room = f.room;
    }

    pub no_head_line : header_of (words_of line) ≡ None → IsGrammarFault text number
    no_head_line e = inl (has_line f.cut f.skipped.above number refl _ (
      skipped_blank f.skipped.lines f.skipped.are,
      some_words false (words_of line) f.kept,
      e,
    ))

pub ends_blank : {text : List ℕ} {end : ℕ} (n : ℕ) → AreSkipped false text 1 end []
    → n ≡ max (end - 1) 1 → IsGrammarFault text n
ends_blank {end = end} n s e = inr (inr (inr (
  s.lines,
  lines_above s.above,
  last_is s.lines end n s.above.counted e,
  inl (skipped_blank s.lines s.are),
)))

-- ---- the size line

module _ {text below : List ℕ} {h : Header} {head_line : ℕ} (hd : IsHead text h head_line below)
  where
    -- lines that are skipped below the header have no contents
    head_skipped : (lines : List (List ℕ)) → contents_in lines ≡ []
        → AreHeadedBy (hd.lines ++ lines) h []
    head_skipped lines e = subst (AreHeadedBy (hd.lines ++ lines) h) e (headed_more hd.are lines)

    pub ends_head : {end : ℕ} (n : ℕ) → AreSkipped true below (head_line + 1) end []
        → n ≡ max (end - 1) 1 → IsGrammarFault text n
    ends_head {end} n s e =
        let a = above_both hd.above s.above in
        inr (inr (inr (
          hd.lines ++ s.lines,
          lines_above a,
          last_is (hd.lines ++ s.lines) end n a.counted e,
          inr (h, have_contents (head_skipped s.lines (skipped_contents s.lines s.are))),
        )))

    module _ {line rest : List ℕ} {number : ℕ}
        (f : IsFirstLine true below (head_line + 1) line number rest) where
      above : AreAbove text 1 (hd.lines ++ f.skipped.lines) number f.rest
      above = above_both hd.above f.skipped.above

      headed : AreHeadedBy (hd.lines ++ f.skipped.lines) h []
      headed = head_skipped f.skipped.lines (skipped_contents f.skipped.lines f.skipped.are)

      pub no_size_line : None ≡ size_at h (words_of line) → IsGrammarFault text number
      no_size_line e = inr (inl (has_line f.cut above number refl _ (
        h,
        have_contents headed,
        content_words (words_of line) f.kept,
        size_none h (words_of line) e,
      )))

      pub size_line : (r : Result Size Cause) → Some (size_numbers r) ≡ size_at h (words_of line)
          → AreSizes text h head_line r number rest
      size_line r e =
          let s = size_some h (words_of line) (size_numbers r) e in
          record {
            size = words_of line;
            lines = (hd.lines ++ f.skipped.lines) ++ (line ∷ []);
            above = above_line f.cut rest above f.ended;
            are = subst (AreHeadedBy ((hd.lines ++ f.skipped.lines) ++ (line ∷ [])) h)
                (contents-first line [] f.kept) (headed_more headed (line ∷ []));
            sized = s.0;
            sizes = s.1;
            header_at = hd.at;
            size_at = has_line f.cut above number refl _ (have_contents headed, refl);
            room = let a = hd.room in let b = f.room in omega arith;
          }
