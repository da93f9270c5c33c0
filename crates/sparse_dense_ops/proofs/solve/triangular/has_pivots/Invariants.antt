use Rattle.std.proofs.Common.{ℕ, ◌<◌}
use Rattle.sparse_compressed.specs.PlainOfLanes.{plain_of_cols}
use Rattle.sparse_dense_ops.specs.Solutions.{HasPivot}
use Rattle.sparse_dense_ops.proofs.solve.triangular.has_pivots.Given as goal

abbrev pub invariant-loop-k : goal.invariant-loop-k
invariant-loop-k g l = (k : ℕ) → k < l.k → HasPivot g.T.Ring.ring g.T.Ring.value
    (plain_of_cols g.T.Ring.ring g.T.Ring.value l.l) k
