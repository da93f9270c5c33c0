use Rattle.sparse_sums.proofs.InOrder.{IsAddingLane}
use Rattle.sparse_sums.proofs.in_order.add_lane.Given as goal

abbrev pub invariant-loop-p : goal.invariant-loop-p
invariant-loop-p g l = IsAddingLane g.T.Ring.ring g.T.Ring.value g.T.Zero.zero_value
    (g.T.Ring.value l.alpha) l.target l.lane l.lane_values l.start l.initial.values l.values l.p l.k
