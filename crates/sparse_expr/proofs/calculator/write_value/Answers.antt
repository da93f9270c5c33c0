use Rattle.std.proofs.Common.{refl, ap, ◌∙◌, inl, inr}
use Rattle.std.specs.Int.{w64}
use Rattle.std.proofs.lemmas.Result.{err_from_is_err_and, on_ok_weaker}
use Rattle.sparse_algebra.specs.Wrapping.{class_of}
use Rattle.sparse_algebra.specs.Numbers.{w64_number}
use Rattle.sparse_compressed.specs.PlainOfLanes.{plain_of_rows, plain_of_cols}
use Rattle.sparse_expr.specs.Run.{ring64, text_in}
use Rattle.sparse_expr.proofs.Outcome.{has_outcome, refuses-value, writes, refuses-write}
use Rattle.sparse_expr.proofs.Outcome.{text_in-rows, text_in-cols, both_of_err}
use Rattle.sparse_expr.proofs.calculator.write_value.Goals as goal

pub returns-in_err-value-in-Rows-clause-refused : goal.returns-in_err-value-in-Rows-clause-refused
returns-in_err-value-in-Rows-clause-refused g c =
    let p = err_from_is_err_and c.from_residual.result c.from_residual.ensures.1 in
    let e = c.in_err-value-in-Rows.field-0.0 in
    rw (p.1, p.2) (λ ts meant. refuses-value c.args.order ts c.args.expr.now _ e (refl, refl)
    (elim c.in_err-value-in-Rows.ensures [
      | inl memory ↦ inl memory
      | inr refused ↦ inr (has_outcome ts _ _ c.args.inputs.now meant refused)
    ]))

pub returns-in_ok-value-in-Rows-clause-written : goal.returns-in_ok-value-in-Rows-clause-written
returns-in_ok-value-in-Rows-clause-written g c =
    let value = plain_of_rows ring64 (λ x. class_of w64 (w64_number x))
    c.in_ok-value-in-Rows.value in
    let said = ap (λ order. text_in order value) c.in-Rows.is
    ∙ text_in-rows c.in_ok-value-in-Rows.value c.values.ensures.sound in
    on_ok_weaker c.save.result (λ appended ts meant. writes c.args.order ts c.args.expr.now value
    (has_outcome ts _ _ c.args.inputs.now meant c.in_ok-value-in-Rows.ensures) _ said _ _ appended)
    c.save.ensures.all

pub returns-in_ok-value-in-Rows-clause-refused : goal.returns-in_ok-value-in-Rows-clause-refused
returns-in_ok-value-in-Rows-clause-refused g c =
    let value = plain_of_rows ring64 (λ x. class_of w64 (w64_number x))
    c.in_ok-value-in-Rows.value in
    let said = ap (λ order. text_in order value) c.in-Rows.is
    ∙ text_in-rows c.in_ok-value-in-Rows.value c.values.ensures.sound in
    both_of_err c.save.result _ _ _
    (λ e some refused ts meant. refuses-write c.args.order ts c.args.expr.now value
    (has_outcome ts _ _ c.args.inputs.now meant c.in_ok-value-in-Rows.ensures) _ said _ e some
    refused)
    c.save.ensures.prefix c.save.ensures.refused

pub returns-in_err-value-in-Cols-clause-refused : goal.returns-in_err-value-in-Cols-clause-refused
returns-in_err-value-in-Cols-clause-refused g c =
    let p = err_from_is_err_and c.from_residual-in_err-value-in-Cols.result
    c.from_residual-in_err-value-in-Cols.ensures.1 in
    let e = c.in_err-value-in-Cols.field-0.0 in
    rw (p.1, p.2) (λ ts meant. refuses-value c.args.order ts c.args.expr.now _ e (refl, refl)
    (elim c.in_err-value-in-Cols.ensures [
      | inl memory ↦ inl memory
      | inr refused ↦ inr (has_outcome ts _ _ c.args.inputs.now meant refused)
    ]))

pub returns-in_ok-value-in-Cols-clause-written : goal.returns-in_ok-value-in-Cols-clause-written
returns-in_ok-value-in-Cols-clause-written g c =
    let value = plain_of_cols ring64 (λ x. class_of w64 (w64_number x))
    c.in_ok-value-in-Cols.value in
    let said = ap (λ order. text_in order value) c.in-Cols.is
    ∙ text_in-cols c.in_ok-value-in-Cols.value c.values-in-Cols.ensures.sound in
    on_ok_weaker c.save-in-Cols.result (λ appended ts meant. writes c.args.order ts c.args.expr.now
    value (has_outcome ts _ _ c.args.inputs.now meant c.in_ok-value-in-Cols.ensures) _ said _ _
    appended)
    c.save-in-Cols.ensures.all

pub returns-in_ok-value-in-Cols-clause-refused : goal.returns-in_ok-value-in-Cols-clause-refused
returns-in_ok-value-in-Cols-clause-refused g c =
    let value = plain_of_cols ring64 (λ x. class_of w64 (w64_number x))
    c.in_ok-value-in-Cols.value in
    let said = ap (λ order. text_in order value) c.in-Cols.is
    ∙ text_in-cols c.in_ok-value-in-Cols.value c.values-in-Cols.ensures.sound in
    both_of_err c.save-in-Cols.result _ _ _
    (λ e some refused ts meant. refuses-write c.args.order ts c.args.expr.now value
    (has_outcome ts _ _ c.args.inputs.now meant c.in_ok-value-in-Cols.ensures) _ said _ e some
    refused)
    c.save-in-Cols.ensures.prefix c.save-in-Cols.ensures.refused
