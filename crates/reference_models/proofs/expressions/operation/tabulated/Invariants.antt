use Rattle.reference_models.specs.InnerOperation.{plain_of_operation, Lists}
use Rattle.reference_models.proofs.expressions.operation.tabulated.Given as goal

abbrev pub invariant-loop-row : goal.invariant-loop-row
invariant-loop-row g l =
    let R = g.T.Ring.ring in
    let f = g.T.Ring.value in
    Lists R f (plain_of_operation R f l.operation) l.row 0 l.list
