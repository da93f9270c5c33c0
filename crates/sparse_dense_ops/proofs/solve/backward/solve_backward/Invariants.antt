use Rattle.std.proofs.Common.{◌-◌, length}
use Rattle.sparse_dense_ops.specs.SparseVectors.{elements}
use Rattle.sparse_dense_ops.specs.InnerColumns.{lower}
use Rattle.sparse_dense_ops.proofs.Substitutions.{IsBackward}
use Rattle.sparse_dense_ops.proofs.solve.backward.solve_backward.Given as goal

abbrev pub invariant-loop-step : goal.invariant-loop-step
invariant-loop-step g l =
    let R = g.T.Ring.ring in
    let f = g.T.Ring.value in
    let z = g.T.Zero.zero_value in
    let n = length l.initial.x in
    IsBackward R n (n - l.step) (lower R f l.l) (elements R f z l.x) (elements R f z l.initial.x)
