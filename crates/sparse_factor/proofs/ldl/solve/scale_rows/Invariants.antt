use Rattle.sparse_factor.specs.InnerFactors.{AreScaledBelow}
use Rattle.sparse_factor.proofs.ldl.solve.scale_rows.Given as goal

abbrev pub invariant-loop-j : goal.invariant-loop-j
invariant-loop-j g l =
    AreScaledBelow g.T.Ring.ring g.T.Ring.value g.T.Zero.zero_value l.j l.factors l.initial.b l.b
