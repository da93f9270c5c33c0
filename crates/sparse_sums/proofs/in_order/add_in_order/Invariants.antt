use Rattle.sparse_compressed.specs.PlainOfLanes.{plain_of_rows}
use Rattle.sparse_sums.proofs.UpdatedLanes.{HasUpdatedLanes}
use Rattle.sparse_sums.proofs.in_order.add_in_order.Given as goal

abbrev pub invariant-loop-i : goal.invariant-loop-i
invariant-loop-i g l =
    let R = g.T.Ring.ring in
    let f = g.T.Ring.value in
    HasUpdatedLanes R f g.T.Zero.zero_value l.target f (f l.alpha) (plain_of_rows R f l.a).value
    l.initial.values l.values l.i
