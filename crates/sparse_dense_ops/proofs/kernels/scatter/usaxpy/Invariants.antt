use Rattle.std.proofs.Common.{length}
use Rattle.sparse_dense_ops.proofs.Terms.{HasAdded}
use Rattle.sparse_dense_ops.proofs.kernels.scatter.usaxpy.Given as goal

abbrev pub invariant-loop-index : goal.invariant-loop-index
invariant-loop-index g l = HasAdded g.T.Ring.ring g.T.Ring.value g.T.Zero.zero_value
    (g.T.Ring.value l.alpha) l.indices l.values (length l.yielded) l.initial.y l.y
