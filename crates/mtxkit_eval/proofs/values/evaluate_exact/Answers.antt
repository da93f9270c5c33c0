use Rattle.std.proofs.Common.{◌<◌, ◌^◌, ◌-◌, ap, sym, subst, ◌≤◌}
use Rattle.std.proofs.lemmas.Result.{err_from_is_err_and}
use Rattle.mtxkit_eval.specs.Values.{IsFirstWide}
use Rattle.mtxkit_eval.specs.declared.extents.Extent.{Extent}
use Rattle.mtxkit_eval.proofs.Bounded.{exact-result, value-exact, uncapped-large, uncapped-small}
use Rattle.mtxkit_eval.proofs.Outcomes.{inexact}
use Rattle.mtxkit_eval.proofs.values.evaluate_exact.Goals as goal

pub returns-in_err-value-clause-refused : goal.returns-in_err-value-clause-refused
returns-in_err-value-clause-refused c =
    let p = err_from_is_err_and c.from_residual.result c.from_residual.ensures.1 in
    rw (p.1, p.2) (inexact c.args.inputs.now c.args.expr.now c.in_err-value.field-0.0
    c.in_err-value.ensures.refused)

pub returns-then-expression_extent-clause-refused : goal.returns-then-expression_extent-clause-refused
returns-then-expression_extent-clause-refused c =
    let has = c.in_ok-value.ensures.value in
    record {
      value = has.value;
      is = has.is;
      bound = uncapped-large _ (subst (λ n. 2 ^ 127 - 1 < n)
          (ap (λ (a : Extent). a.largest) c.expression_extent.ensures)
          c.if-expression_extent.true);
    }

pub returns-in-None-clause-value : goal.returns-in-None-clause-value
returns-in-None-clause-value c =
    let small = uncapped-small _ (subst (λ n. n ≤ 2 ^ 127 - 1)
    (ap (λ (a : Extent). a.largest) c.expression_extent.ensures) c.if-expression_extent.false) in
    record {
      exact = exact-result c.args.inputs.now c.in_ok-value.ensures.sound c.args.expr.now small
          c.in_ok-value.value c.in_ok-value.ensures.value;
      narrow = c.first_wide.ensures.none c.in-None.is;
    }

pub returns-in-Some-clause-refused : goal.returns-in-Some-clause-refused
returns-in-Some-clause-refused c =
    let small = uncapped-small _ (subst (λ n. n ≤ 2 ^ 127 - 1)
    (ap (λ (a : Extent). a.largest) c.expression_extent.ensures) c.if-expression_extent.false) in
    let has = c.in_ok-value.ensures.value in
    record {
      value = has.value;
      is = has.is;
      first = subst (λ z. IsFirstWide z c.in-Some.row c.in-Some.col)
          (sym (value-exact c.args.inputs.now c.in_ok-value.ensures.sound c.args.expr.now small
          c.in_ok-value.value has))
          c.in-Some.ensures.first;
    }
