use Rattle.std.proofs.Common.{◌≡◌}
use Rattle.sparse_algebra.specs.Sums.{sum_below}
use Rattle.sparse_coo_dense.specs.CooPlain.{plain_of_coo}
use Rattle.reference_models.proofs.products.product_at.Given as goal

abbrev pub invariant-loop-k : goal.invariant-loop-k
invariant-loop-k g l =
    let R = g.T.Ring.ring in
    let f = g.T.Ring.value in
    f l.sum ≡ sum_below R l.k (λ k.
    R.mul ((plain_of_coo R f l.a).value l.i k) ((plain_of_coo R f l.b).value k l.j))
