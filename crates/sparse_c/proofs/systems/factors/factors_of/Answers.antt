use Rattle.std.proofs.Common.{ℕ, List, inl, inr, ap, sym, subst, ◌∙◌}
use Rattle.std.proofs.lemmas.Result.{err_from_is_err_and}
use Rattle.sparse_algebra.specs.Plain.{Plain}
use Rattle.sparse_compressed.specs.Compressed.{Compressed, IsSound}
use Rattle.sparse_compressed.specs.PlainOfLanes.{plain_of_cols}
use Rattle.sparse_factor.specs.Factorisations.{plain_symmetric, IsFactorisation}
use Rattle.sparse_factor.specs.Factors.{diagonal}
use Rattle.sparse_c.specs.Factors.{AreFactors}
use Rattle.sparse_c.proofs.Factoring.{AreFactors-arrays}
use Rattle.c_arrays.specs.Statuses.{refusal_of_operation}
use Rattle.sparse_c.proofs.systems.factors.factors_of.Goals as goal

pub returns-clause-factors : goal.returns-clause-factors
returns-clause-factors g c =
    let R = g.T.Ring.ring in
    let f = g.T.Ring.value in
    let z = g.T.Zero.zero_value in
    let s = c.in_ok-factors.factors in
    let facts = c.in_ok-factors.ensures in
    let copied = c.in_ok-l.ensures ∙ c.l.ensures.l in
    let columns = c.transpose_as_csr.ensures ∙ copied in
    let pivots = c.in_ok-d.ensures.items ∙ c.d.ensures.d in
    subst (λ (p : Compressed g.row.T.Denot × List g.row.T.Denot). AreFactors R f c.args.a
    (plain_of_cols R f p.0) (diagonal R f z p.1)) (λ k. (sym columns k, sym pivots k))
    (AreFactors-arrays R f z c.args.a c.in_ok-a.a s c.in_ok-a.ensures.pattern
    c.in_ok-a.ensures.plain
    facts.rows facts.count (subst IsSound copied c.values.ensures.sound) facts.entries
    facts.unit_diagonal facts.pivots facts.equation)

pub returns-in_err-factors-clause-fault : goal.returns-in_err-factors-clause-fault
returns-in_err-factors-clause-fault g c =
    let R = g.T.Ring.ring in
    let f = g.T.Ring.value in
    let p = err_from_is_err_and c.from_residual-in_err-factors.result
    c.from_residual-in_err-factors.ensures.1 in
    let e = c.in_err-factors.ensures in
    let none = λ (a : Plain R). (l : Plain R) (d : ℕ → R.Carrier)
    → IsFactorisation R f (plain_symmetric R a) l d → ⊥ in
    rw p.1 (elim e.kinds [
      | inl singular ↦ inr (inr (
        c.in_ok-a.ensures.sound,
        p.2 ∙ ap refusal_of_operation singular,
        subst none c.in_ok-a.ensures.plain (e.singular singular),
      ))
      | inr memory ↦ inl (p.2 ∙ ap refusal_of_operation memory)
    ])
