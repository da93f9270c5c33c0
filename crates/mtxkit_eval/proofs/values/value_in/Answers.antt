use Rattle.std.proofs.Common.{◌≡◌, Err, inl, inr, map, ap, sym, subst, ◌∙◌, refl}
use Rattle.sparse_coo_dense.specs.Coo.{Coo}
use Rattle.sparse_coo_dense.specs.CooPlain.{plain_of_coo}
use Rattle.mtxkit_eval.specs.Values.{exact_value, IsExprFailure}
use Rattle.mtxkit_eval.proofs.Outcomes.{faulted, value-found, value-refused}
use Rattle.mtxkit_eval.proofs.values.value_in.Goals as goal

pub returns-in-Ok-clause-value : goal.returns-in-Ok-clause-value
returns-in-Ok-clause-value g c =
    let R = g.T.Ring.ring in
    let plain = λ (m : Coo g.row.T.Denot). plain_of_coo R g.T.Ring.value m in
    let found = value-found R c.args.inputs.now c.args.expr.now _
    (ap (map plain) c.deref.ensures.value ∙ c.in_ok-lists.ensures.images) _ c.in-Ok.ensures in
    let reduced = c.in_ok-reduced_matrix-in-Ok.ensures in
    record {
      value = found.0;
      is = found.1;
      images = record {
        sound = reduced.sound;
        images = reduced.images ∙ sym found.2;
        reduced = reduced.reduced;
      };
    }

pub returns-clause-refused : goal.returns-clause-refused
returns-clause-refused g c =
    let R = g.T.Ring.ring in
    let plain = λ (m : Coo g.row.T.Denot). plain_of_coo R g.T.Ring.value m in
    let a = exact_value c.args.inputs.now c.args.expr.now in
    subst (IsExprFailure a) (sym c.expression_fault.ensures)
    (faulted (IsExprFailure a) (λ e. a ≡ Err e) refl (λ e is. is) c.in-Err.error
    (elim c.in-Err.ensures [
      | inl memory ↦ inl memory
      | inr refused ↦ inr (value-refused R c.args.inputs.now c.args.expr.now _
          (ap (map plain) c.deref.ensures.value ∙ c.in_ok-lists.ensures.images) c.in-Err.error
          refused)
    ]))
