use Rattle.std.proofs.Common.{arith, inl, inr}
use Rattle.std.proofs.lemmas.Result.{err_from_is_err_and}
use Rattle.sparse_pattern.proofs.FirstFaults.{first_at_end, first_among}
use Rattle.reference_models.proofs.pattern_faults.pattern_fault.Goals as goal
use Rattle.reference_models.proofs.pattern_faults.pattern_fault.Goals.{then-end-start-via-then-end-start}
use Rattle.reference_models.proofs.pattern_faults.pattern_fault.Goals.{then-end-start-via-else-end-start+then-indices-end}

pub returns-then-end-start-clause-fault : goal.returns-then-end-start-clause-fault
returns-then-end-start-clause-fault c =
    let lane = c.loop-lane.lane in
    first_at_end _ lane c.loop-lane.invariant (omega arith) (elim c.then-end-start.branch [
      | then-end-start-via-then-end-start w ↦ inl (omega arith)
      | then-end-start-via-else-end-start+then-indices-end w ↦ inr (omega arith)
    ])

pub returns-in_err-lane_fault-clause-fault : goal.returns-in_err-lane_fault-clause-fault
returns-in_err-lane_fault-clause-fault c =
    let p = err_from_is_err_and c.from_residual.result c.from_residual.ensures.1 in
    let lane = c.loop-lane.lane in
    rw (p.1, p.2) (first_among _ lane c.loop-lane.invariant
    (omega arith) (omega arith) (omega arith) _ c.in_err-lane_fault.ensures.fault)
