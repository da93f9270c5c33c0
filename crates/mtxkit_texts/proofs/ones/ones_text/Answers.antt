use Rattle.std.proofs.Common.{◌≢◌, length, sym, ◌∙◌, arith}
use Rattle.std.proofs.lemmas.Bool.{eqb-true, eqb-false}
use Rattle.std.proofs.lemmas.List.{nil_from_length}
use Rattle.sparse_faults.specs.InnerLines.{IsCut}
use Rattle.sparse_faults.proofs.LineEnds.{cut_ends, cut_shorter}
use Rattle.mtxkit_texts.proofs.OnesLines.{ones_begin, ones_more, ones_end}
use Rattle.mtxkit_texts.proofs.ones.ones_text.Goals as goal
use Rattle.mtxkit_texts.proofs.ones.ones_text.Goals.{After-split_line}

cut : (c : After-split_line)
    → IsCut c.loop-rest.rest.now c.split_line.result.0.now c.split_line.result.1.now
cut c =
    let some : length c.loop-rest.rest.now ≢ 0 =
    eqb-false _ _ (sym c.is_empty.ensures ∙ c.loop-rest-test.true) in
    record {
      some = omega (arith, some);
      line_is = c.split_line.ensures.line;
      others_are = c.split_line.ensures.rest;
    }

pub after_end-rest-requires : goal.after_end-rest-requires
after_end-rest-requires c = cut_ends (cut (goal.at.after_end-rest-requires c).After-split_line)

pub loop-rest-smaller : goal.loop-rest-smaller
loop-rest-smaller c = cut_shorter (cut (goal.at.loop-rest-smaller c).After-split_line) _
    c.after_end-rest.ensures

pub loop-rest-preserved : goal.loop-rest-preserved
loop-rest-preserved c =
    rw (c.in_ok-stage.ensures.next, c.in_ok-push_str.ensures.bytes)
    (ones_more c.args.text.now c.loop-rest.invariant
    (cut (goal.at.loop-rest-preserved c).After-split_line) c.after_end-rest.ensures
    c.in_ok-stage.ensures.appended)

pub loop-rest-init : goal.loop-rest-init
loop-rest-init c = rw (c.new-ones.ensures.bytes, c.as_bytes-rest.ensures.value)
    (ones_begin c.args.text.now)

pub returns : goal.returns
returns c = ones_end c.args.text.now c.loop-rest.invariant
    (nil_from_length c.loop-rest.rest.now
    (eqb-true _ _ (sym c.is_empty.ensures ∙ c.loop-rest-test.false)))
