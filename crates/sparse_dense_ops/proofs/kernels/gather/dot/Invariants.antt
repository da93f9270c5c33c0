use Rattle.std.proofs.Common.{length}
use Rattle.sparse_dense_ops.specs.InnerKernels.{strided}
use Rattle.sparse_dense_ops.proofs.Terms.{IsDot}
use Rattle.sparse_dense_ops.proofs.kernels.gather.dot.Given as goal

abbrev pub invariant-loop-index : goal.invariant-loop-index
invariant-loop-index g l =
    let R = g.T.Ring.ring in
    let f = g.T.Ring.value in
    IsDot R f l.indices l.values (strided R f g.T.Zero.zero_value l.column l.step)
    (length l.yielded) (f l.sum)
