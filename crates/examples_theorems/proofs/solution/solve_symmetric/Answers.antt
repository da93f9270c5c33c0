use Rattle.std.proofs.Common.{ap, ◌∙◌}
use Rattle.nalgebra_sparse.specs.DensePlain.{plain_of_dense}
use Rattle.examples_theorems.proofs.OneSolution.{only_solution}
use Rattle.examples_theorems.proofs.solution.solve_symmetric.Goals as goal

pub returns-in-Ok-clause-only : goal.returns-in-Ok-clause-only
returns-in-Ok-clause-only g c =
    let R = g.T.Ring.ring in
    let f = g.T.Ring.value in
    let found = c.in-Ok.ensures in
    only_solution R f g.T.Zero.zero_value c.args.a.now c.in-Ok.ldl c.requires.square found.rows
    found.count found.unit_diagonal found.pivots found.equation c.product_associative_law.ensures
    (plain_of_dense R f c.solve_mut.new.b) (plain_of_dense R f c.args.b.now)
    (c.solve_mut.ensures.solved ∙ ap (plain_of_dense R f) c.in_ok-x.ensures)
