use Rattle.std.proofs.Common.{length}
use Rattle.sparse_dense_ops.proofs.Terms.{HasAdded}
use Rattle.sparse_dense_ops.proofs.kernels.scatter.add_multiple_four.Given as goal

abbrev pub invariant-loop-index : goal.invariant-loop-index
invariant-loop-index g l =
    let R = g.T.Ring.ring in
    let f = g.T.Ring.value in
    let z = g.T.Zero.zero_value in
    let ks = l.lane.0.now in
    let vs = l.lane.1.now in
    let n = length l.yielded in
    record {
      first : HasAdded R f z (f l.a) ks vs n l.initial.first l.first;
      second : HasAdded R f z (f l.b) ks vs n l.initial.second l.second;
      third : HasAdded R f z (f l.c) ks vs n l.initial.third l.third;
      fourth : HasAdded R f z (f l.d) ks vs n l.initial.fourth l.fourth;
    }
