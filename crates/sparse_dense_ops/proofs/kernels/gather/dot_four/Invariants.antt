use Rattle.std.proofs.Common.{length}
use Rattle.sparse_dense_ops.specs.InnerKernels.{strided}
use Rattle.sparse_dense_ops.proofs.Terms.{IsDot}
use Rattle.sparse_dense_ops.proofs.kernels.gather.dot_four.Given as goal

abbrev pub invariant-loop-index : goal.invariant-loop-index
invariant-loop-index g l =
    let R = g.T.Ring.ring in
    let f = g.T.Ring.value in
    let z = g.T.Zero.zero_value in
    let n = length l.yielded in
    record {
      first : IsDot R f l.indices l.values (strided R f z l.columns.0.now l.step) n (f l.a);
      second : IsDot R f l.indices l.values (strided R f z l.columns.1.now l.step) n (f l.b);
      third : IsDot R f l.indices l.values (strided R f z l.columns.2.now l.step) n (f l.c);
      fourth : IsDot R f l.indices l.values (strided R f z l.columns.3.now l.step) n (f l.d);
    }
