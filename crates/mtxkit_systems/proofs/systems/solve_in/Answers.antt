use Rattle.std.proofs.Common.{Err, ap, sym, subst, ◌∙◌}
use Rattle.sparse_algebra.specs.Plain.{Plain}
use Rattle.sparse_coo_dense.specs.CooPlain.{plain_of_coo}
use Rattle.mtxkit_matrices.specs.Orders.{IsByColumns}
use Rattle.mtxkit_matrices.specs.Values.{IsSymmetricMatrix}
use Rattle.mtxkit_matrices.specs.declared.systems.SystemError.TheVariants as system
use Rattle.mtxkit_systems.specs.Systems.{plain_of_integers, IsSolved}
use Rattle.mtxkit_systems.proofs.Solving.{product-same, refused, system-same, system_at_ok}
use Rattle.mtxkit_systems.proofs.systems.solve_in.Goals as goal

pub returns-in-Ok : goal.returns-in-Ok
returns-in-Ok g c =
    let R = g.T.Ring.ring in
    let value = g.T.Ring.value in
    let a = c.in_ok-matrix.ensures in
    let b = c.in_ok-sides.ensures in
    let x = c.in_ok-integers_of-in-Ok.ensures.plain in
    record {
      system = system-same R value c.in_ok-matrix.matrix c.in_ok-sides.sides c.args.a.now c.args.b.now a b
          (system_at_ok system.Shapes c.in_ok-matrix.matrix c.in_ok-sides.sides c.in-Ok.x c.in-Ok.ensures.shapes);
      symmetric = subst (IsSymmetricMatrix R) a c.in-Ok.ensures.symmetric;
      rows = ap (λ (p : Plain R). p.rows) x ∙ c.in-Ok.ensures.rows ∙ ap (λ (p : Plain R). p.cols) a;
      cols = ap (λ (p : Plain R). p.cols) x ∙ c.in-Ok.ensures.cols ∙ ap (λ (p : Plain R). p.cols) b;
      product = product-same R (plain_of_coo R value c.in_ok-matrix.matrix)
          (plain_of_integers R c.args.a.now) (plain_of_coo R value c.in-Ok.x)
          (plain_of_integers R c.in_ok-integers_of-in-Ok.field-0)
          (plain_of_coo R value c.in_ok-sides.sides) (plain_of_integers R c.args.b.now) a (sym x) b
          c.in-Ok.ensures.solved;
      order = subst IsByColumns (sym c.in_ok-integers_of-in-Ok.ensures.coordinates)
          c.in-Ok.ensures.order;
      nonzero = c.in_ok-integers_of-in-Ok.ensures.nonzero c.in-Ok.ensures.nonzero;
      values = c.in_ok-integers_of-in-Ok.ensures.reduced;
    }

pub returns : goal.returns
returns g c =
    let R = g.T.Ring.ring in
    let value = g.T.Ring.value in
    let reduced = g.T.Residues.reduced in
    subst (λ f. IsSolved R value reduced c.args.modulus c.args.order c.args.a.now c.args.b.now (Err f))
    (sym c.system_fault.ensures)
    (rw (c.of-a.ensures, c.of-b.ensures) (refused R value c.in_ok-matrix.matrix c.in_ok-sides.sides c.args.a.now c.args.b.now
    c.in_ok-matrix.ensures c.in_ok-sides.ensures c.args.modulus c.args.order c.in-Err.error
    c.in-Err.ensures.shapes c.in-Err.ensures.refused))
