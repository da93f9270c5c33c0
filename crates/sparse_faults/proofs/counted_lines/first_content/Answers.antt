use Rattle.std.proofs.Common.{◌≢◌, [], ◌∷◌, ◌++◌, length, sym, subst, ◌∙◌, arith}
use Rattle.std.proofs.lemmas.Bool.{eqb-true, eqb-false}
use Rattle.std.proofs.lemmas.List.{nil_from_length}
use Rattle.sparse_faults.specs.InnerLines.{IsCut}
use Rattle.sparse_faults.proofs.CountedLines.{above_none, above_line}
use Rattle.sparse_faults.proofs.LineEnds.{cut_ends, cut_shorter}
use Rattle.sparse_faults.specs.InnerFirstFaults.{AreSkipped}
use Rattle.sparse_faults.proofs.SkippedLines.{skipped_more}
use Rattle.sparse_faults.proofs.counted_lines.first_content.Goals as goal
use Rattle.sparse_faults.proofs.counted_lines.first_content.Goals.{After-split_line}

pub loop-rest-init : goal.loop-rest-init
loop-rest-init c = record {
  lines = [];
  above = above_none c.args.text.now c.args.first;
  are = tt;
  room = omega arith;
}

cut : (c : After-split_line)
    → IsCut c.loop-rest.rest.now c.split_line.result.0.now c.split_line.result.1.now
cut c =
    let some : length c.loop-rest.rest.now ≢ 0 =
    eqb-false _ _ (sym c.is_empty.ensures ∙ c.loop-rest-test.true) in
    record {
      some = omega (arith, some);
      line_is = c.split_line.ensures.line;
      others_are = c.split_line.ensures.rest;
    }

pub after_end-below-requires : goal.after_end-below-requires
after_end-below-requires c = cut_ends (cut (goal.at.after_end-below-requires c).After-split_line)

pub loop-rest-smaller : goal.loop-rest-smaller
loop-rest-smaller c = cut_shorter (cut (goal.at.loop-rest-smaller c).After-split_line) _
    c.after_end-below.ensures

pub loop-rest-preserved : goal.loop-rest-preserved
loop-rest-preserved c =
    let line = cut (goal.at.loop-rest-preserved c).After-split_line in
    let less = cut_shorter line _ c.after_end-below.ensures in
    let i = c.loop-rest.invariant in
    let room = i.room in
    record {
      lines = i.lines ++ (c.split_line.result.0.now ∷ []);
      above = above_line line _ i.above c.after_end-below.ensures;
      are = skipped_more c.args.skips_comments i.lines c.split_line.result.0.now i.are
          (sym c.is_skipped.ensures ∙ c.if-not-is_skipped.false);
      room = omega arith;
    }

pub returns-then-not-is_skipped-clause-found : goal.returns-then-not-is_skipped-clause-found
returns-then-not-is_skipped-clause-found c =
    let line = cut (goal.at.returns-then-not-is_skipped-clause-found c).After-split_line in
    let less = cut_shorter line _ c.after_end-below.ensures in
    let room = c.loop-rest.invariant.room in
    record {
      rest = c.loop-rest.rest.now;
      others = c.split_line.result.1.now;
      skipped = c.loop-rest.invariant;
      cut = line;
      ended = c.after_end-below.ensures;
      kept = sym c.is_skipped.ensures ∙ c.if-not-is_skipped.true;
      room = omega arith;
    }

pub returns-clause-none : goal.returns-clause-none
returns-clause-none c =
    subst (AreSkipped c.args.skips_comments c.args.text.now c.args.first c.loop-rest.number)
    (nil_from_length c.loop-rest.rest.now
    (eqb-true _ _ (sym c.is_empty.ensures ∙ c.loop-rest-test.false))) c.loop-rest.invariant
