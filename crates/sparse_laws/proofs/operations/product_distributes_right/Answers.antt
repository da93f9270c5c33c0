use Rattle.std.proofs.Common.{sym, ◌∙◌}
use Rattle.sparse_compressed.specs.PlainOfLanes.{plain_of_rows}
use Rattle.sparse_laws.proofs.operations.product_distributes_right.Goals as goal

pub returns : goal.returns
returns g c =
    let R = g.T.Ring.ring in
    let a = plain_of_rows R g.T.Ring.value c.args.a.now in
    let b = plain_of_rows R g.T.Ring.value c.args.b.now in
    let d = plain_of_rows R g.T.Ring.value c.args.c.now in
    c.in_ok-product.ensures ∙ c.product_distributes_law.ensures.left a b d c.requires.cols
    ∙ sym c.in_ok-products.ensures
