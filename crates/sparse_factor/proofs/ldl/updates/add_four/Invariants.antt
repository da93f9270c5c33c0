use Rattle.sparse_factor.proofs.AddedFour.{HasAddedFour}
use Rattle.sparse_factor.proofs.ldl.updates.add_four.Given as goal

abbrev pub invariant-loop-at : goal.invariant-loop-at
invariant-loop-at g l =
    let f = g.T.Ring.value in
    HasAddedFour g.T.Ring.ring f g.T.Zero.zero_value (f l.a) (f l.b) (f l.c) (f l.d) l.rows l.first
    l.second l.third l.fourth l.at l.initial.column l.column
