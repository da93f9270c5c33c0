use Rattle.std.proofs.Common.{◌≢◌, length, sym, ◌∙◌, arith}
use Rattle.std.proofs.lemmas.Bool.{eqb-true, eqb-false}
use Rattle.sparse_faults.specs.InnerLines.{IsCut}
use Rattle.sparse_faults.proofs.LineEnds.{cut_plain, cut_ends, cut_shorter}
use Rattle.mtxkit_matrices.proofs.ScaleRefusals.{text_failed, ends_blank, ends_unsized}
use Rattle.mtxkit_matrices.proofs.Rewriting.{text_begins, text_more, text_ends}
use Rattle.mtxkit_matrices.proofs.decimals.text.scaled_text.Goals as goal
use Rattle.mtxkit_matrices.proofs.decimals.text.scaled_text.Goals.{After-split_line}

pub loop-rest-init : goal.loop-rest-init
loop-rest-init c = record {
  written = rw c.new-written.ensures.items (text_begins c.args.scale c.args.text.now);
  number = omega arith;
}

cut : (c : After-split_line)
    → IsCut c.loop-rest.rest.now c.split_line.result.0.now c.split_line.result.1.now
cut c =
    let some : length c.loop-rest.rest.now ≢ 0 =
    eqb-false _ _ (sym c.is_empty.ensures ∙ c.loop-rest-test.true) in
    record {
      some = omega (arith, some);
      line_is = c.split_line.ensures.line;
      others_are = c.split_line.ensures.rest;
    }

pub push_line-requires : goal.push_line-requires
push_line-requires c = cut_plain (cut (goal.at.push_line-requires c).After-split_line)

pub after_end-rest-requires : goal.after_end-rest-requires
after_end-rest-requires c = cut_ends (cut (goal.at.after_end-rest-requires c).After-split_line)

pub loop-rest-smaller : goal.loop-rest-smaller
loop-rest-smaller c = cut_shorter (cut (goal.at.loop-rest-smaller c).After-split_line) _
    c.after_end-rest.ensures

pub loop-rest-preserved : goal.loop-rest-preserved
loop-rest-preserved c =
    let line = cut (goal.at.loop-rest-preserved c).After-split_line in
    let less = cut_shorter line _ c.after_end-rest.ensures in
    let n = c.loop-rest.invariant.number in
    record {
      written = rw (c.in-Ok-push_bytes.ensures.next, c.in-Ok-push_bytes.ensures.appended)
          (text_more c.args.scale c.args.text.now c.loop-rest.invariant.written line
          c.after_end-rest.ensures c.in-Ok.ensures.written);
      number = omega arith;
    }

pub returns-in-Err-clause-refused : goal.returns-in-Err-clause-refused
returns-in-Err-clause-refused c =
    text_failed (cut (goal.at.returns-in-Err-clause-refused c).After-split_line) c.loop-rest.stage
    c.loop-rest.invariant.written _ c.in-Err.ensures.refused

pub returns-in-Entries-clause-written : goal.returns-in-Entries-clause-written
returns-in-Entries-clause-written c =
    text_ends c.args.scale c.args.text.now _ c.loop-rest.rest.now _ c.in-Entries.field-0
    (rw c.in-Entries.is at c.loop-rest.invariant.written)
    (eqb-true _ _ (sym c.is_empty.ensures ∙ c.loop-rest-test.false))

pub returns-in-Head-clause-refused : goal.returns-in-Head-clause-refused
returns-in-Head-clause-refused c =
    ends_blank (eqb-true _ _ (sym c.is_empty.ensures ∙ c.loop-rest-test.false))
    (rw c.in-Head.is at c.loop-rest.invariant.written)

pub returns-in-Sizes-clause-refused : goal.returns-in-Sizes-clause-refused
returns-in-Sizes-clause-refused c =
    ends_unsized (eqb-true _ _ (sym c.is_empty.ensures ∙ c.loop-rest-test.false))
    c.in-Sizes.field-0 (rw c.in-Sizes.is at c.loop-rest.invariant.written)
