use Rattle.std.proofs.Common.{sym, subst, ◌∙◌, arith}
use Rattle.sparse_coo_dense.specs.CooPlain.{plain_of_coo}
use Rattle.sparse_coo_dense.specs.DensePlain.{plain_of_dense}
use Rattle.sparse_compressed.specs.PlainOfLanes.{plain_of_cols}
use Rattle.sparse_dense_ops.specs.Solutions.{HasSameValues}
use Rattle.sparse_factor.specs.Factorisations.{plain_symmetric}
use Rattle.sparse_factor.specs.OrderedFactors.{HasNoFactorsInOrder, plain_of_ordered}
use Rattle.mtxkit_matrices.proofs.SymmetricSystems.{solved_is}
use Rattle.mtxkit_matrices.proofs.systems.solve_in_order.Goals as goal

pub returns-in-Ok-clause-solved : goal.returns-in-Ok-clause-solved
returns-in-Ok-clause-solved g c =
    let R = g.T.Ring.ring in
    let f = g.T.Ring.value in
    let a = plain_of_cols R f c.args.a.now in
    let b = c.args.b.now in
    let factors = plain_of_ordered R f g.T.Zero.zero_value c.in-Ok.factors in
    let tall = sym c.requires.rows in
    solved_is R a factors (plain_of_dense R f c.solve_mut.new.b) (plain_of_coo R f b) b.nrows b.ncols
    (c.requires.symmetric.square ∙ tall) (c.in-Ok.ensures.factors.rows ∙ tall)
    (λ i j row col. c.requires.symmetric.values i j (omega (arith, row, tall))
    (omega (arith, col, tall)))
    (subst (λ k. HasSameValues R k k factors (plain_symmetric R a)) (c.in-Ok.ensures.rows ∙ tall)
    c.in-Ok.ensures.equation)
    (c.in_ok-solve_mut-in-Ok.ensures.solved ∙ c.in_ok-x-in-Ok.ensures)

pub singular_pivot-requires-clause-singular : goal.singular_pivot-requires-clause-singular
singular_pivot-requires-clause-singular g c =
    subst (HasNoFactorsInOrder g.T.Ring.ring g.T.Ring.value c.args.a.now) (sym c.in_ok-order.ensures)
    (c.in-Err-Singular.ensures.singular c.in-Err-Singular.field-0-is)
