use Rattle.sparse_factor.proofs.ScaledRows.{AreScaledTo}
use Rattle.sparse_factor.proofs.ldl.solve.scale_column.Given as goal

abbrev pub invariant-loop-i : goal.invariant-loop-i
invariant-loop-i g l =
    AreScaledTo g.T.Ring.ring g.T.Ring.value g.T.Zero.zero_value l.i l.factors l.initial.x l.x
