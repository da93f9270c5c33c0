use Rattle.std.proofs.Common.{sym, ◌∙◌}
use Rattle.sparse_compressed.specs.PlainOfLanes.{plain_of_cols}
use Rattle.sparse_laws.proofs.operations.columns.product_distributes.Goals as goal

pub returns : goal.returns
returns g c =
    let R = g.T.Ring.ring in
    let a = plain_of_cols R g.T.Ring.value c.args.a.now in
    let b = plain_of_cols R g.T.Ring.value c.args.b.now in
    let d = plain_of_cols R g.T.Ring.value c.args.c.now in
    c.in_ok-product.ensures ∙ c.product_distributes_law.ensures.right a b d
    ∙ sym c.in_ok-products.ensures
