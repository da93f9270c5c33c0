use Rattle.std.proofs.Common.{length}
use Rattle.sparse_dense_ops.specs.SparseVectors.{elements}
use Rattle.sparse_dense_ops.specs.InnerColumns.{lower}
use Rattle.sparse_dense_ops.proofs.Substitutions.{IsForward}
use Rattle.sparse_dense_ops.proofs.solve.forward.solve_forward_four.Given as goal

abbrev pub invariant-loop-k : goal.invariant-loop-k
invariant-loop-k g l =
    let R = g.T.Ring.ring in
    let f = g.T.Ring.value in
    let z = g.T.Zero.zero_value in
    let t = lower R f l.l in
    let n = length l.initial.first in
    record {
      first : IsForward R n l.k t (elements R f z l.first) (elements R f z l.initial.first);
      second : IsForward R n l.k t (elements R f z l.second) (elements R f z l.initial.second);
      third : IsForward R n l.k t (elements R f z l.third) (elements R f z l.initial.third);
      fourth : IsForward R n l.k t (elements R f z l.fourth) (elements R f z l.initial.fourth);
    }
