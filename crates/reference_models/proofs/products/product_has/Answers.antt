use Rattle.std.proofs.Common.{◌≡◌, ◌<◌, sym, true, rules}
use Rattle.std.specs.Prelude.{◌&&◌}
use Rattle.sparse_coo_dense.specs.CooPlain.{plain_of_coo}
use Rattle.sparse_algebra.proofs.Cases.{and_both}
use Rattle.sparse_algebra.proofs.PlainLemmas.{any_below-at}
use Rattle.reference_models.proofs.products.product_has.Goals as goal

pub returns-then-has_triplet-2 : goal.returns-then-has_triplet-2
returns-then-has_triplet-2 g c =
    let R = g.T.Ring.ring in
    let f = g.T.Ring.value in
    let left : (plain_of_coo R f c.args.a.now).has c.args.i c.loop-k.k ≡ true = search rules in
    let right : (plain_of_coo R f c.args.b.now).has c.loop-k.k c.args.j ≡ true = search rules in
    let below : c.loop-k.k < c.args.a.now.ncols = search rules in
    sym (any_below-at c.args.a.now.ncols c.loop-k.k
    (λ k. (plain_of_coo R f c.args.a.now).has c.args.i k
    && (plain_of_coo R f c.args.b.now).has k c.args.j)
    below (and_both _ _ left right))
