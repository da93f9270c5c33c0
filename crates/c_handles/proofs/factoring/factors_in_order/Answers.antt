use Rattle.std.proofs.Common.{ℕ, List, inr, subst, sym, refl, ◌∙◌}
use Rattle.sparse_algebra.specs.Plain.{Plain}
use Rattle.sparse_algebra.specs.WrappingValues.{w64_value}
use Rattle.c_arrays.specs.Arrays.{ring64}
use Rattle.sparse_compressed.specs.PlainOfLanes.{plain_of_rows}
use Rattle.sparse_factor.specs.Factorisations.{IsFactorisation}
use Rattle.c_handles.proofs.HeldOrders.{AreFactorsInOrder-plain}
use Rattle.c_handles.specs.Ordered.{permuted_symmetric}
use Rattle.c_handles.proofs.factoring.factors_in_order.Goals as goal

pub returns-in-Ok-clause-factors : goal.returns-in-Ok-clause-factors
returns-in-Ok-clause-factors c =
    let p = c.in_ok-permutation.ensures in
    let s = c.in-Ok.ensures in
    AreFactorsInOrder-plain (plain_of_rows ring64 w64_value c.args.a.now) c.in_ok-columns.columns
    c.args.order.now c.in_ok-permutation.permutation c.in-Ok.factors c.in_ok-columns.ensures
    (sym c.in_ok-size.ensures.rows ∙ c.in_ok-size.ensures.cols) p.valid p.order s.order s.rows
    s.entries s.factors s.equation

pub returns-in-Err-Singular-clause-fault : goal.returns-in-Err-Singular-clause-fault
returns-in-Err-Singular-clause-fault c =
    let none = λ (p : List ℕ) (a : Plain ring64). (l : Plain ring64) (d : ℕ → ring64.Carrier)
    → IsFactorisation ring64 w64_value (permuted_symmetric p a) l d → ⊥ in
    inr (inr (
      sym c.in_ok-size.ensures.rows ∙ c.in_ok-size.ensures.cols,
      inr (
        c.in_ok-permutation.ensures.valid,
        c.in_ok-permutation.ensures.count ∙ c.in_ok-size.ensures.rows,
        refl,
        subst (λ (p : List ℕ). none p (plain_of_rows ring64 w64_value c.args.a.now))
            c.in_ok-permutation.ensures.order (subst (none c.in_ok-permutation.permutation)
            c.in_ok-columns.ensures (c.in-Err-Singular.ensures.singular c.in-Err-Singular.field-0-is)),
      ),
    ))
