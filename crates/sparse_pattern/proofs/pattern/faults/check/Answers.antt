use Rattle.std.proofs.Common.{arith, inl, inr}
use Rattle.std.proofs.lemmas.Result.{IfOk-from_err, err_from_is_err_and}
use Rattle.sparse_pattern.proofs.FirstFaults.{first_at_end, first_among}
use Rattle.sparse_pattern.proofs.pattern.faults.check.Goals as goal
use Rattle.sparse_pattern.proofs.pattern.faults.check.Goals.{then-end-start-via-then-end-start}
use Rattle.sparse_pattern.proofs.pattern.faults.check.Goals.{then-end-start-via-else-end-start+then-indices-end}

pub returns-then-end-start-clause-fault : goal.returns-then-end-start-clause-fault
returns-then-end-start-clause-fault c =
    first_at_end _ c.loop-lane.lane c.loop-lane.invariant (omega arith)
    (elim c.then-end-start.branch [
      | then-end-start-via-then-end-start w ↦ inl (omega arith)
      | then-end-start-via-else-end-start+then-indices-end w ↦ inr (omega arith)
    ])

pub returns-in_err-check_lane-clause-fault : goal.returns-in_err-check_lane-clause-fault
returns-in_err-check_lane-clause-fault c =
    let p = err_from_is_err_and c.from_residual.result c.from_residual.ensures.1 in
    rw (p.1, p.2) (first_among _ c.loop-lane.lane c.loop-lane.invariant (omega arith) (omega arith)
    (omega arith) _ c.in_err-check_lane.ensures.fault)

pub overflow_add-major_dim : goal.overflow_add-major_dim
overflow_add-major_dim c = omega arith

pub bounds-offsets-0 : goal.bounds-offsets-0
bounds-offsets-0 c = omega arith

pub offset_bounds-offsets-major_dim : goal.offset_bounds-offsets-major_dim
offset_bounds-offsets-major_dim c = omega arith

pub bounds-offsets-major_dim : goal.bounds-offsets-major_dim
bounds-offsets-major_dim c = omega arith

pub offset_bounds-offsets-lane : goal.offset_bounds-offsets-lane
offset_bounds-offsets-lane c = omega arith

pub bounds-offsets-lane : goal.bounds-offsets-lane
bounds-offsets-lane c = omega arith

pub overflow_add-end : goal.overflow_add-end
overflow_add-end c = omega arith

pub offset_bounds-offsets-lane-in-loop-lane : goal.offset_bounds-offsets-lane-in-loop-lane
offset_bounds-offsets-lane-in-loop-lane c = omega arith

pub bounds-offsets-lane-in-loop-lane : goal.bounds-offsets-lane-in-loop-lane
bounds-offsets-lane-in-loop-lane c = omega arith

pub check_lane-requires : goal.check_lane-requires
check_lane-requires c = omega arith

pub returns-in_err-check_lane-clause-ok : goal.returns-in_err-check_lane-clause-ok
returns-in_err-check_lane-clause-ok c = IfOk-from_err _ _ c.from_residual.ensures.0
