use Rattle.std.proofs.Common.{Err, subst, sym}
use Rattle.sparse_coo_dense.specs.CooPlain.{plain_of_coo}
use Rattle.mtxkit_matrices.specs.declared.solutions.CheckError.TheVariants as check
use Rattle.mtxkit_systems.specs.Systems.{plain_of_integers, IsTested}
use Rattle.mtxkit_systems.proofs.Solving.{product-same, untested, equation-same, equation_at_ok}
use Rattle.mtxkit_systems.proofs.systems.check_in.Goals as goal

pub returns-in-Ok : goal.returns-in-Ok
returns-in-Ok g c =
    let R = g.T.Ring.ring in
    let value = g.T.Ring.value in (
      equation-same R value c.in_ok-matrix.matrix c.in_ok-sides.sides c.args.a.now c.args.b.now
          c.in_ok-matrix.ensures c.in_ok-sides.ensures c.in_ok-solution.solution c.args.x.now
          c.in_ok-solution.ensures
          (equation_at_ok check.Shapes c.in_ok-matrix.matrix c.in_ok-solution.solution
          c.in_ok-sides.sides c.in-Ok.field-0 c.in-Ok.ensures.shapes),
      product-same R (plain_of_coo R value c.in_ok-matrix.matrix) (plain_of_integers R c.args.a.now)
          (plain_of_coo R value c.in_ok-solution.solution) (plain_of_integers R c.args.x.now)
          (plain_of_coo R value c.in_ok-sides.sides) (plain_of_integers R c.args.b.now)
          c.in_ok-matrix.ensures c.in_ok-solution.ensures c.in_ok-sides.ensures
          c.in-Ok.ensures.solved,
    )

pub returns : goal.returns
returns g c =
    subst (λ f. IsTested g.T.Ring.ring c.args.a.now c.args.x.now c.args.b.now (Err f))
    (sym c.check_fault.ensures)
    (rw (c.of-a.ensures, c.of-x.ensures, c.of-b.ensures) (untested g.T.Ring.ring g.T.Ring.value c.in_ok-matrix.matrix c.in_ok-sides.sides c.args.a.now
    c.args.b.now c.in_ok-matrix.ensures c.in_ok-sides.ensures c.in_ok-solution.solution
    c.args.x.now c.in_ok-solution.ensures c.in-Err.error c.in-Err.ensures.shapes
    c.in-Err.ensures.refused))
