use Rattle.std.proofs.Common.{ap, ◌∙◌}
use Rattle.nalgebra_sparse.specs.Plain.{plain_product}
use Rattle.nalgebra_sparse.specs.PlainOfLanes.{plain_of_rows}
use Rattle.examples_theorems.proofs.blocks.multiply_rows.Goals as goal

pub returns : goal.returns
returns g c =
    let R = g.T.Ring.ring in
    let f = g.T.Ring.value in
    let a = plain_of_rows R f c.args.a.now in
    let b = plain_of_rows R f c.args.b.now in
    c.in_ok-product.ensures
    ∙ ap (λ rows. plain_product R rows b) c.in_ok-rows.ensures.plain
    ∙ c.product_blocks_law.ensures.rows a b c.args.start c.args.count
