-- A search passes the lines below a size line one by one.
use Rattle.std.proofs.Common.{◌≡◌, ℕ, ◌+◌, true, false, List, [], ◌∷◌, ◌++◌, length, refl, sym}
use Rattle.std.proofs.Common.{ap, subst, ◌∙◌, arith, append-nil, length-append}
use Rattle.std.specs.Prelude.{◌&&◌}
use Rattle.sparse_algebra.proofs.Cases.{and_parts}
use Rattle.sparse_parser.specs.Grammar.{is_entry}
use Rattle.sparse_parser.specs.InnerReading.{words_of}
use Rattle.sparse_faults.proofs.CountedLines.{above_none, above_line, above_both}
use Rattle.sparse_faults.proofs.LineEnds.{cut_shorter}
use Rattle.sparse_faults.proofs.LineLists.{all_more}
use Rattle.sparse_faults.specs.declared.line_faults.Search.{Search}
use Rattle.sparse_faults.specs.InnerFirstFaults.{AllPass, AreEntries, ArePassed, AreSkipped, IsFailing}
use Rattle.sparse_faults.specs.InnerFirstFaults.{AreSkippedLines, IsFirstLine, contents_in, is_skipped}
use Rattle.sparse_faults.specs.InnerFirstFaults.{passes}
use Rattle.sparse_faults.proofs.SizedLines.{lines_above}
use Rattle.sparse_faults.proofs.SkippedLines.{contents-append, contents-first, skipped_contents}

same_contents : (lines skipped : List (List ℕ)) → AreSkippedLines true skipped
    → contents_in (lines ++ skipped) ≡ contents_in lines
same_contents lines skipped s = contents-append lines skipped
    ∙ rw (skipped_contents skipped s) (append-nil (contents_in lines))

more_contents : (lines skipped : List (List ℕ)) (line : List ℕ) → AreSkippedLines true skipped
    → is_skipped true (words_of line) ≡ false
    → contents_in (lines ++ (skipped ++ (line ∷ []))) ≡ contents_in lines ++ (words_of line ∷ [])
more_contents lines skipped line s k = contents-append lines (skipped ++ (line ∷ []))
    ∙ ap (λ (x : List (List (List ℕ))). contents_in lines ++ x)
    (contents-append skipped (line ∷ []) ∙ rw (skipped_contents skipped s) (contents-first line [] k))

module _ (search : Search) (text : List ℕ) (first : ℕ) where
  pub passed_none : ArePassed search text first 0 first text
  passed_none = record {
    lines = [];
    above = above_none text first;
    counted = refl;
    entries = record { listed = refl; pass = refl };
    room = omega arith;
    few = omega arith;
  }

  module _ {count number : ℕ} {rest : List ℕ} (p : ArePassed search text first count number rest)
    where
      module _ {line below : List ℕ} {n : ℕ} (f : IsFirstLine true rest number line n below) where
        pub passed_more : true ≡ (is_entry (words_of line) && passes search (words_of line))
            → ArePassed search text first (count + 1) (n + 1) below
        passed_more e =
            let c = more_contents p.lines f.skipped.lines line f.skipped.are f.kept in
            let both = and_parts _ _ (sym e) in
            record {
              lines = p.lines ++ (f.skipped.lines ++ (line ∷ []));
              above = above_both p.above (above_line f.cut below f.skipped.above f.ended);
              counted =
                  let l = ap (λ (x : List (List (List ℕ))). length x) c in
                  let m = length-append (contents_in p.lines) (words_of line ∷ []) in
                  let k = p.counted in
                  omega arith;
              entries = subst (AreEntries search) (sym c) (record {
                listed = all_more is_entry (contents_in p.lines) (words_of line) p.entries.listed
                    both.0;
                pass = all_more (passes search) (contents_in p.lines) (words_of line)
                    p.entries.pass both.1;
              });
              room = let a = p.room in let b = f.room in omega arith;
              few =
                  let a = p.few in
                  let b = f.skipped.room in
                  let d = f.skipped.above.counted in
                  let less = cut_shorter f.cut below f.ended in
                  omega arith;
            }

        pub passed_failing : false ≡ (is_entry (words_of line) && passes search (words_of line))
            → IsFailing search text first n
        passed_failing e = record {
          before = p.lines ++ f.skipped.lines;
          rest = f.rest;
          line = line;
          others = f.others;
          above = above_both p.above f.skipped.above;
          cut = f.cut;
          entries = subst (AreEntries search)
              (sym (same_contents p.lines f.skipped.lines f.skipped.are)) p.entries;
          content = f.kept;
          fails = sym e;
        }

      pub passed_all : {end : ℕ} → AreSkipped true rest number end [] → AllPass search text count
      passed_all s =
          let c = same_contents p.lines s.lines s.are in
          record {
            lines = p.lines ++ s.lines;
            are = lines_above (above_both p.above s.above);
            counted = p.counted ∙ sym (ap (λ (x : List (List (List ℕ))). length x) c);
            entries = subst (AreEntries search) (sym c) p.entries;
          }
