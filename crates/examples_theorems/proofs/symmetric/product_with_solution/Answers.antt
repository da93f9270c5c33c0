use Rattle.std.proofs.Common.{ap, sym, subst, ◌∙◌}
use Rattle.nalgebra_sparse.specs.DensePlain.{plain_of_dense}
use Rattle.nalgebra_sparse.specs.Factors.{plain_of_factors, symmetric_of}
use Rattle.nalgebra_sparse.specs.Plain.{Plain}
use Rattle.nalgebra_sparse.specs.PlainOfLanes.{plain_of_cols}
use Rattle.nalgebra_sparse.specs.Solutions.{HasSameValues}
use Rattle.examples_theorems.proofs.SymmetricSystems.{product_is}
use Rattle.examples_theorems.proofs.symmetric.product_with_solution.Goals as goal

pub returns : goal.returns
returns g c =
    let R = g.T.Ring.ring in
    let f = g.T.Ring.value in
    let z = g.T.Zero.zero_value in
    let a = plain_of_cols R f c.args.a.now in
    let s = c.in_ok-ldl.ldl in
    let b = c.args.b.now in
    let x = plain_of_dense R f c.solve_mut.new.b in
    let factors = plain_of_factors R f z s in
    let n = b.nrows in
    let count = c.in_ok-ldl.ensures.count ∙ sym c.requires.rows in
    let rows = c.in_ok-ldl.ensures.rows ∙ sym c.requires.rows in
    let equation = subst (λ k. HasSameValues R k k factors (symmetric_of R f c.args.a.now)) count
    c.in_ok-ldl.ensures.equation in
    let solved = c.solve_mut.ensures.solved ∙ ap (plain_of_dense R f) c.in_ok-x.ensures in
    product_is R a factors x (plain_of_dense R f b)
    (plain_of_dense R f c.in_ok-mul_csc_dense.field-0) n b.ncols
    (ap (λ (p : Plain R). p.rows) c.requires.symmetric ∙ sym c.requires.rows) rows
    c.requires.symmetric equation solved c.in_ok-mul_csc_dense.ensures
