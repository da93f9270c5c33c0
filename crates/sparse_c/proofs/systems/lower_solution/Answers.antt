use Rattle.std.proofs.Common.{◌<◌, inr, ap, sym, subst, ◌∙◌}
use Rattle.std.proofs.lemmas.Result.{err_from_is_err_and}
use Rattle.sparse_algebra.specs.Plain.{Plain}
use Rattle.sparse_coo_dense.specs.DensePlain.{plain_of_dense}
use Rattle.sparse_dense_ops.specs.Solutions.{plain_lower, IsSingular, IsSolution}
use Rattle.sparse_c.specs.Solved.{transposed_if}
use Rattle.c_arrays.specs.Arrays.{plain_by_values}
use Rattle.c_arrays.specs.Statuses.{refusal_of_operation}
use Rattle.sparse_c.proofs.systems.lower_solution.Goals as goal

pub returns-clause-solved : goal.returns-clause-solved
returns-clause-solved g c =
    let R = g.T.Ring.ring in
    let f = g.T.Ring.value in
    let x = plain_of_dense R f c.solve_triangle.new.b in
    let b = plain_by_values R c.args.shape.0 c.args.shape.1 c.args.b.now in
    let solved = c.in_ok-solve_triangle.ensures in
    record {
      regular = λ singular. solved.regular (
        subst (λ n. 0 < n) (sym c.in_ok-x.ensures.cols) singular.0,
        subst (λ (p : Plain R). IsSingular R f (plain_lower R p)) (sym c.in_ok-l.ensures.plain)
            singular.1,
      );
      solves = subst (λ (p : Plain R). IsSolution R (transposed_if R c.args.transposed
          (plain_lower R p)) x b) c.in_ok-l.ensures.plain (solved.solved ∙ c.in_ok-x.ensures.plain);
    }

pub returns-in_err-solve_triangle-clause-fault : goal.returns-in_err-solve_triangle-clause-fault
returns-in_err-solve_triangle-clause-fault g c =
    let R = g.T.Ring.ring in
    let p = err_from_is_err_and c.from_residual-in_err-solve_triangle.result
    c.from_residual-in_err-solve_triangle.ensures.1 in
    let e = c.in_err-solve_triangle.ensures in
    rw p.1 (inr (inr (
      (c.in_ok-l.ensures.sound, c.in_ok-x.ensures.sized),
      p.2 ∙ ap refusal_of_operation e.kind,
      (
        subst (λ n. 0 < n) c.in_ok-x.ensures.cols e.singular.0,
        subst (λ (p : Plain R). IsSingular R g.T.Ring.value (plain_lower R p))
            c.in_ok-l.ensures.plain e.singular.1,
      ),
    )))
