use Rattle.std.proofs.Common.{◌≡◌}
use Rattle.sparse_algebra.specs.Sums.{sum_below}
use Rattle.sparse_coo_dense.specs.DensePlain.{plain_of_dense}
use Rattle.sparse_factor.specs.InnerFactors.{term}
use Rattle.sparse_dense_ops.specs.SparseVectors.{elements}
use Rattle.reference_models.specs.DenseFactors.{dense_symmetric}
use Rattle.reference_models.proofs.ldl.find_left.Given as goal

abbrev pub invariant-loop-k : goal.invariant-loop-k
invariant-loop-k g l =
    let R = g.T.Ring.ring in
    let f = g.T.Ring.value in
    R.add (sum_below R l.k (term R (plain_of_dense R f l.l).value
    (elements R f g.T.Zero.zero_value l.d) l.i l.j)) (f l.left)
    ≡ (dense_symmetric R f l.a).value l.i l.j
