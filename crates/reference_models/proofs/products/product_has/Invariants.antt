use Rattle.std.proofs.Common.{◌≡◌, false}
use Rattle.std.specs.Prelude.{◌&&◌}
use Rattle.sparse_algebra.specs.Plain.{any_below}
use Rattle.sparse_coo_dense.specs.CooPlain.{plain_of_coo}
use Rattle.reference_models.proofs.products.product_has.Given as goal

abbrev pub invariant-loop-k : goal.invariant-loop-k
invariant-loop-k g l =
    let R = g.T.Ring.ring in
    let f = g.T.Ring.value in
    any_below l.k (λ k.
    (plain_of_coo R f l.a).has l.i k && (plain_of_coo R f l.b).has k l.j) ≡ false
