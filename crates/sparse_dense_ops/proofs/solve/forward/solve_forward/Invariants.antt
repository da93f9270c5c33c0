use Rattle.std.proofs.Common.{length}
use Rattle.sparse_dense_ops.specs.SparseVectors.{elements}
use Rattle.sparse_dense_ops.specs.InnerColumns.{lower}
use Rattle.sparse_dense_ops.proofs.Substitutions.{IsForward}
use Rattle.sparse_dense_ops.proofs.solve.forward.solve_forward.Given as goal

abbrev pub invariant-loop-k : goal.invariant-loop-k
invariant-loop-k g l =
    let R = g.T.Ring.ring in
    let f = g.T.Ring.value in
    let z = g.T.Zero.zero_value in
    IsForward R (length l.initial.x) l.k (lower R f l.l) (elements R f z l.x)
    (elements R f z l.initial.x)
