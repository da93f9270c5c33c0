use Rattle.sparse_factor.proofs.GatheredColumns.{AreGathered}
use Rattle.sparse_factor.proofs.ldl.columns.gather_column.Given as goal

abbrev pub invariant-loop-at : goal.invariant-loop-at
invariant-loop-at g l =
    let f = g.T.Ring.value in
    AreGathered g.T.Ring.ring f g.T.Zero.zero_value l.pattern l.j (f l.inverse) l.at
    l.initial.values l.values l.initial.column l.column
