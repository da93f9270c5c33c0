use Rattle.std.proofs.Common.{ap, ◌∙◌}
use Rattle.sparse_algebra.specs.Plain.{plain_product}
use Rattle.sparse_coo_dense.specs.DensePlain.{plain_of_dense}
use Rattle.sparse_compressed.specs.PlainOfLanes.{plain_of_cols}
use Rattle.sparse_dense_ops.proofs.PlainUpdates.{update_with_zero_beta}
use Rattle.sparse_dense_ops.proofs.products.product.mul_csc_dense.Goals as goal

pub returns : goal.returns
returns g c =
    let R = g.T.Ring.ring in
    let f = g.T.Ring.value in
    c.spmm_csc_dense.ensures.updated
    ∙ update_with_zero_beta R f c.in_ok-product.product
    (plain_product R (plain_of_cols R f c.args.a.now) (plain_of_dense R f c.args.b.now))
    (ap f c.zero.ensures ∙ g.met.T.Ring.zero_law) c.one.ensures
    (c.in_ok-product.ensures.rows ∙ c.nrows.ensures)
    (c.in_ok-product.ensures.cols ∙ c.ncols.ensures)
