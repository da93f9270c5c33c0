use Rattle.std.proofs.Common.{ap, ◌∙◌, sym}
use Rattle.sparse_algebra.specs.Plain.{plain_transpose}
use Rattle.sparse_algebra.proofs.PlainLemmas.{transpose_product}
use Rattle.sparse_compressed.specs.PlainOfLanes.{plain_of_rows, plain_of_cols}
use Rattle.sparse_products.proofs.serial.product.mul_csc.Goals as goal

pub returns : goal.returns
returns g c =
    let R = g.T.Ring.ring in
    let f = g.T.Ring.value in
    let rows = rw (c.cs.ensures.core, c.cs-2.ensures.core) at c.in_ok-multiply.ensures in
    ap (plain_of_cols R f) c.from_cs.ensures ∙ ap (plain_transpose R) rows
    ∙ transpose_product R (plain_of_rows R f c.args.b.now) (plain_of_rows R f c.args.a.now)
    (sym c.requires)
