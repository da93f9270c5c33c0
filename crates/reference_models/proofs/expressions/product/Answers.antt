use Rattle.sparse_coo_dense.specs.CooPlain.{plain_of_coo}
use Rattle.reference_models.proofs.expressions.product.Goals as goal

pub tabulated-requires : goal.tabulated-requires
tabulated-requires g c =
    let R = g.T.Ring.ring in
    let f = g.T.Ring.value in
    record {
      within = c.within_law.ensures.product (plain_of_coo R f c.args.a.now)
          (plain_of_coo R f c.args.b.now) c.size-a_size.ensures.within c.size-b_size.ensures.within;
    }
