use Rattle.std.proofs.Common.{◌∙◌, length, ap}
use Rattle.nalgebra_sparse.specs.Factors.{diagonal}
use Rattle.examples_theorems.specs.Pivots.{product_below}
use Rattle.examples_theorems.proofs.PivotProducts.{one_product, factors_exist}
use Rattle.examples_theorems.proofs.determinant.determinant.Goals as goal

pub returns-in-Ok-clause-factors : goal.returns-in-Ok-clause-factors
returns-in-Ok-clause-factors g c =
    let found = c.in-Ok.ensures in
    factors_exist g.T.Ring.ring g.T.Ring.value g.T.Zero.zero_value c.args.a.now c.in-Ok.ldl
    found.count found.rows found.unit_diagonal found.pivots found.equation

pub returns-in-Ok-clause-product : goal.returns-in-Ok-clause-product
returns-in-Ok-clause-product g c =
    let R = g.T.Ring.ring in
    let found = c.in-Ok.ensures in
    λ l d is. c.product_of.ensures
    ∙ ap (λ ds. product_below R (length ds) (diagonal R g.T.Ring.value g.T.Zero.zero_value ds))
    c.d.ensures.d
    ∙ one_product R g.T.Ring.value g.T.Zero.zero_value c.args.a.now c.in-Ok.ldl
    found.count found.unique l d is
