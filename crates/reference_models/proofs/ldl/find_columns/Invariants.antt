use Rattle.reference_models.specs.InnerEquations.{AreFirstFactors}
use Rattle.reference_models.proofs.ldl.find_columns.Given as goal

abbrev pub invariant-loop-j : goal.invariant-loop-j
invariant-loop-j g l =
    AreFirstFactors g.T.Ring.ring g.T.Ring.value g.T.Zero.zero_value l.a l.l l.d l.j
