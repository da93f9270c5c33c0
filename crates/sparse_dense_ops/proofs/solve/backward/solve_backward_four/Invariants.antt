use Rattle.std.proofs.Common.{◌-◌, length}
use Rattle.sparse_dense_ops.specs.SparseVectors.{elements}
use Rattle.sparse_dense_ops.specs.InnerColumns.{lower}
use Rattle.sparse_dense_ops.proofs.Substitutions.{IsBackward}
use Rattle.sparse_dense_ops.proofs.solve.backward.solve_backward_four.Given as goal

abbrev pub invariant-loop-step : goal.invariant-loop-step
invariant-loop-step g l =
    let R = g.T.Ring.ring in
    let f = g.T.Ring.value in
    let z = g.T.Zero.zero_value in
    let t = lower R f l.l in
    let n = length l.initial.first in
    let k = n - l.step in
    record {
      first : IsBackward R n k t (elements R f z l.first) (elements R f z l.initial.first);
      second : IsBackward R n k t (elements R f z l.second) (elements R f z l.initial.second);
      third : IsBackward R n k t (elements R f z l.third) (elements R f z l.initial.third);
      fourth : IsBackward R n k t (elements R f z l.fourth) (elements R f z l.initial.fourth);
    }
