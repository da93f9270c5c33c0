use Rattle.std.proofs.Common.{sym, ap, ◌∙◌, arith}
use Rattle.std.specs.Option.{is_none}
use Rattle.sparse_faults.proofs.LineEnds.{cut_plain}
use Rattle.sparse_faults.proofs.PassedLines.{passed_none, passed_more, passed_failing, passed_all}
use Rattle.sparse_faults.proofs.locations.first_fault.Goals as goal

pub loop-found-init : goal.loop-found-init
loop-found-init c = passed_none c.args.search c.args.text.now c.args.first

pub line_fault-requires-clause-line : goal.line_fault-requires-clause-line
line_fault-requires-clause-line c = cut_plain c.in-Ok.ensures.found.cut

pub loop-found-smaller : goal.loop-found-smaller
loop-found-smaller c =
    let f = c.in-Ok.ensures.found in
    let room = f.room in
    let n = f.skipped.above.counted in
    omega arith

pub loop-found-preserved : goal.loop-found-preserved
loop-found-preserved c =
    passed_more c.args.search c.args.text.now c.args.first c.loop-found.invariant
    c.in-Ok.ensures.found (sym (ap (λ o. is_none o) c.in_default.is) ∙ c.line_fault.ensures)

pub returns-in-Some-clause-fault : goal.returns-in-Some-clause-fault
returns-in-Some-clause-fault c = rw c.of_line.ensures.line
    (passed_failing c.args.search c.args.text.now c.args.first c.loop-found.invariant
    c.in-Ok.ensures.found (sym (ap (λ o. is_none o) c.in-Some.is) ∙ c.line_fault.ensures))

pub returns-in-Err-clause-passed : goal.returns-in-Err-clause-passed
returns-in-Err-clause-passed c =
    passed_all c.args.search c.args.text.now c.args.first c.loop-found.invariant
    c.in-Err.ensures.none
