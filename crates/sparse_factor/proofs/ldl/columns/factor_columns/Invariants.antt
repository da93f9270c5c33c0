use Rattle.sparse_compressed.specs.Compressed.{compressed_of}
use Rattle.sparse_factor.proofs.ColumnSteps.{AreColumnsDone}
use Rattle.sparse_factor.proofs.ldl.columns.factor_columns.Given as goal

abbrev pub invariant-loop-j : goal.invariant-loop-j
invariant-loop-j g l = AreColumnsDone g.T.Ring.ring g.T.Ring.value g.T.Zero.zero_value l.lower
    (compressed_of l.pattern l.values) l.inverses l.cursors l.column l.j
