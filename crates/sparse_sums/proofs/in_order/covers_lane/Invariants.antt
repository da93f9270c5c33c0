use Rattle.sparse_sums.proofs.InOrder.{IsFoundPrefix}
use Rattle.sparse_sums.proofs.in_order.covers_lane.Given as goal

abbrev pub invariant-loop-p : goal.invariant-loop-p
invariant-loop-p l = IsFoundPrefix l.target l.lane l.p l.k
