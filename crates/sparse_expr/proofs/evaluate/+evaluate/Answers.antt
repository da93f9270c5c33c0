use Rattle.std.proofs.Common.{ap, sym, ◌∙◌, map, subst, rules}
use Rattle.sparse_algebra.specs.Plain.{plain_negation}
use Rattle.sparse_coo_dense.specs.CooPlain.{plain_of_coo}
use Rattle.sparse_expr.specs.InnerTransposed.{rows_or_transposed}
use Rattle.sparse_expr.specs.Value.{value_of, Meets, one, sum_of, difference_of}
use Rattle.sparse_expr.proofs.Values.{both_ok}
use Rattle.sparse_expr.proofs.evaluate.+evaluate.Goals as goal

pub returns-in_ok-second-in-Add-clause-met : goal.returns-in_ok-second-in-Add-clause-met
returns-in_ok-second-in-Add-clause-met g t c =
    let R = g.T.Ring.ring in
    let inputs = map (λ m. plain_of_coo R g.T.Ring.value m) c.args.inputs.now in
    let a = ap (value_of R inputs) (sym c.deref.ensures) ∙ c.in_ok-first-in-Add.ensures.met in
    let b = ap (value_of R inputs) (sym c.deref-in-Add.ensures)
    ∙ c.in_ok-second-in-Add.ensures.met in
    subst (λ v. Meets R (λ m. rows_or_transposed R g.T.Ring.value c.args.transposed m.value) v c.sum.result)
    (sym (ap (value_of R inputs) c.in-Add.is ∙ both_ok R (sum_of R) _ _ _ _ a b))
    (c.sum.ensures c.args.transposed)

pub returns-in_ok-subtrahend-in-Sub-clause-met : goal.returns-in_ok-subtrahend-in-Sub-clause-met
returns-in_ok-subtrahend-in-Sub-clause-met g t c =
    let R = g.T.Ring.ring in
    let inputs = map (λ m. plain_of_coo R g.T.Ring.value m) c.args.inputs.now in
    let a = ap (value_of R inputs) (sym c.deref-in-Sub.ensures)
    ∙ c.in_ok-minuend-in-Sub.ensures.met in
    let b = ap (value_of R inputs) (sym c.deref-in-Sub-2.ensures)
    ∙ c.in_ok-subtrahend-in-Sub.ensures.met in
    subst (λ v. Meets R (λ m. rows_or_transposed R g.T.Ring.value c.args.transposed m.value) v
    c.difference.result)
    (sym (ap (value_of R inputs) c.in-Sub.is ∙ both_ok R (difference_of R) _ _ _ _ a b))
    (c.difference.ensures c.args.transposed)

pub returns-in_ok-operand-in-Neg-clause-met : goal.returns-in_ok-operand-in-Neg-clause-met
returns-in_ok-operand-in-Neg-clause-met g t c =
    let R = g.T.Ring.ring in
    let inputs = map (λ m. plain_of_coo R g.T.Ring.value m) c.args.inputs.now in
    let a = ap (value_of R inputs) (sym c.deref-in-Neg.ensures)
    ∙ c.in_ok-operand-in-Neg.ensures.met in
    subst (λ v. Meets R (λ m. rows_or_transposed R g.T.Ring.value c.args.transposed m.value) v
    c.negation.result)
    (sym (ap (value_of R inputs) c.in-Neg.is ∙ ap (one R (plain_negation R)) a))
    (c.negation.ensures c.args.transposed)

-- ---- written by tools/answer-goals

pub returns-in_err-right-in-Mul-clause-met : goal.returns-in_err-right-in-Mul-clause-met
returns-in_err-right-in-Mul-clause-met g t c = search rules
