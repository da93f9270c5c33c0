use Rattle.std.proofs.Common.{◌≡◌}
use Rattle.nalgebra_sparse.specs.Factors.{diagonal}
use Rattle.examples_theorems.specs.Pivots.{product_below}
use Rattle.examples_theorems.proofs.determinant.product_of.Given as goal

abbrev pub invariant-loop-factor : goal.invariant-loop-factor
invariant-loop-factor g l =
    let R = g.T.Ring.ring in
    let f = g.T.Ring.value in
    f l.product ≡ product_below R l.factor-index (diagonal R f g.T.Zero.zero_value l.values)
