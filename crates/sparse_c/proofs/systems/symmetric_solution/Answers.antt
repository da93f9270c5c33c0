use Rattle.std.proofs.Common.{◌≡◌, ℕ, inl, inr, ap, subst, ◌∙◌}
use Rattle.std.proofs.lemmas.Result.{err_from_is_err_and}
use Rattle.sparse_algebra.specs.Plain.{Plain}
use Rattle.sparse_coo_dense.specs.DensePlain.{plain_of_dense}
use Rattle.sparse_compressed.specs.PlainOfLanes.{plain_of_cols}
use Rattle.sparse_factor.specs.Factorisations.{plain_symmetric, IsFactorisation}
use Rattle.sparse_factor.specs.Factors.{diagonal, plain_of_factors}
use Rattle.sparse_dense_ops.specs.Solutions.{HasSameValues}
use Rattle.sparse_c.specs.Symmetric.{symmetric_by_cols}
use Rattle.sparse_c.proofs.Factoring.{IsFactorisation-arrays}
use Rattle.sparse_c.proofs.Solving.{solved_as}
use Rattle.c_arrays.specs.Arrays.{plain_by_values}
use Rattle.c_arrays.specs.Statuses.{refusal_of_operation}
use Rattle.sparse_c.proofs.systems.symmetric_solution.Goals as goal

pub returns-clause-solved : goal.returns-clause-solved
returns-clause-solved g c =
    let R = g.T.Ring.ring in
    let f = g.T.Ring.value in
    let z = g.T.Zero.zero_value in
    let n = c.args.shape.0 in
    let m = c.args.shape.1 in
    let s = c.in_ok-factors.factors in
    let factors = plain_of_factors R f z s in
    let x = plain_of_dense R f c.solve_mut.new.b in
    let b = plain_by_values R n m c.args.b.now in
    let size : c.in_ok-a.a.pattern.minor_dim ≡ n =
    ap (λ d. d.minor_dim) c.in_ok-a.ensures.pattern ∙ c.requires.rows in
    let equation = subst (λ (p : Plain R). HasSameValues R n n factors (plain_symmetric R p))
    c.in_ok-a.ensures.plain
    (subst (λ k. HasSameValues R k k factors (plain_symmetric R (plain_of_cols R f c.in_ok-a.a)))
    (c.in_ok-factors.ensures.count ∙ size) c.in_ok-factors.ensures.equation) in
    let made = c.in_ok-factors.ensures in
    record {
      factored = (
        plain_of_cols R f s.l,
        diagonal R f z s.d,
        IsFactorisation-arrays R f z c.args.a c.in_ok-a.a s c.in_ok-a.ensures.pattern
            c.in_ok-a.ensures.plain made.rows made.count made.unit_diagonal made.pivots made.equation,
      );
      solves = solved_as R (symmetric_by_cols R c.args.a) factors x b n m c.requires.cols
          (made.rows ∙ size) equation (c.solve_mut.ensures.solved ∙ c.in_ok-x.ensures.plain);
    }

pub returns-in_err-factors-clause-fault : goal.returns-in_err-factors-clause-fault
returns-in_err-factors-clause-fault g c =
    let R = g.T.Ring.ring in
    let f = g.T.Ring.value in
    let p = err_from_is_err_and c.from_residual-in_err-factors.result
    c.from_residual-in_err-factors.ensures.1 in
    let e = c.in_err-factors.ensures in
    let none = λ (a : Plain R). (l : Plain R) (d : ℕ → R.Carrier)
    → IsFactorisation R f (plain_symmetric R a) l d → ⊥ in
    rw p.1 (elim e.kinds [
      | inl singular ↦ inr (inr (
        (c.in_ok-a.ensures.sound, c.in_ok-x.ensures.sized),
        p.2 ∙ ap refusal_of_operation singular,
        subst none c.in_ok-a.ensures.plain (e.singular singular),
      ))
      | inr memory ↦ inl (p.2 ∙ ap refusal_of_operation memory)
    ])
