use Rattle.std.proofs.Common.{ℕ, List, inl, inr, subst}
use Rattle.std.proofs.lemmas.Result.{IfErr-weaker}
use Rattle.std.specs.Prelude.{IfErr}
use Rattle.c_arrays.specs.Refused.{IsOutOfMemoryOr}
use Rattle.c_arrays.specs.declared.refusal.Refusal.{Refusal}
use Rattle.c_handles.specs.Texts.{IsTextError, IsTextFault}
use Rattle.c_handles.proofs.texts.put_text.Goals as goal

widen : (text : List ℕ) (e : Refusal) → IsOutOfMemoryOr (IsTextError text) e
    → IsOutOfMemoryOr (IsTextFault text) e
widen text e (inl memory) = inl memory
widen text e (inr error) = inr (inr error)

pub returns-in-Ok-clause-fault : goal.returns-in-Ok-clause-fault
returns-in-Ok-clause-fault c =
    let text = c.args.text.now in
    IfErr-weaker c.put_lines.result (IsOutOfMemoryOr (IsTextError text)) (IsOutOfMemoryOr (IsTextFault text))
    (widen text) (subst (λ (t : List ℕ). IfErr c.put_lines.result (IsOutOfMemoryOr (IsTextError t)))
    c.in-Ok.ensures.cases.0 c.put_lines.ensures.fault)
