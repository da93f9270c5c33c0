use Rattle.std.proofs.Common.{ℕ, inl, inr, ap, subst, sym, ◌∙◌}
use Rattle.std.proofs.lemmas.Result.{err_from_is_err_and}
use Rattle.sparse_algebra.specs.Plain.{Plain}
use Rattle.sparse_algebra.specs.WrappingValues.{w64_value}
use Rattle.c_arrays.specs.Arrays.{ring64}
use Rattle.c_arrays.specs.Statuses.{refusal_of_operation}
use Rattle.sparse_compressed.specs.PlainOfLanes.{plain_of_rows}
use Rattle.sparse_factor.specs.Factorisations.{plain_symmetric, IsFactorisation}
use Rattle.c_handles.proofs.HeldFactors.{AreFactors-plain}
use Rattle.c_handles.proofs.factoring.factors_of.Goals as goal

pub returns-clause-factors : goal.returns-clause-factors
returns-clause-factors c =
    let s = c.in_ok-factors.ensures in
    AreFactors-plain (plain_of_rows ring64 w64_value c.args.a.now) c.in_ok-columns.columns _
    c.values.ensures.sound c.in_ok-columns.ensures
    (sym c.in_ok-size_of.ensures.rows ∙ c.in_ok-size_of.ensures.cols) s.rows s.count s.entries
    s.unit_diagonal s.pivots s.equation

pub returns-in_err-factors-clause-fault : goal.returns-in_err-factors-clause-fault
returns-in_err-factors-clause-fault c =
    let p = err_from_is_err_and c.from_residual-in_err-factors.result
    c.from_residual-in_err-factors.ensures.1 in
    let e = c.in_err-factors.ensures in
    let none = λ (a : Plain ring64). (l : Plain ring64) (d : ℕ → ring64.Carrier)
    → IsFactorisation ring64 w64_value (plain_symmetric ring64 a) l d → ⊥ in
    rw p.1 (elim e.kinds [
      | inl singular ↦ inr (inr (
        sym c.in_ok-size_of.ensures.rows ∙ c.in_ok-size_of.ensures.cols,
        p.2 ∙ ap refusal_of_operation singular,
        subst none c.in_ok-columns.ensures (e.singular singular),
      ))
      | inr memory ↦ inl (p.2 ∙ ap refusal_of_operation memory)
    ])
