use Rattle.std.proofs.Common.{ℕ, List, inl, inr, subst}
use Rattle.std.proofs.lemmas.Result.{IfErr-weaker}
use Rattle.std.specs.Prelude.{IfErr}
use Rattle.sparse_c.specs.Texts.{IsErrorOfText, IsFaultOfText}
use Rattle.c_arrays.specs.Refused.{IsOutOfMemoryOr}
use Rattle.c_arrays.specs.declared.refusal.Refusal.{Refusal}
use Rattle.sparse_c.proofs.texts.reading.list_of_text.Goals as goal

widen : (text : List ℕ) (e : Refusal) → IsOutOfMemoryOr (IsErrorOfText text) e
    → IsOutOfMemoryOr (IsFaultOfText text) e
widen text e (inl memory) = inl memory
widen text e (inr error) = inr (inr error)

pub returns-in-Ok-clause-fault : goal.returns-in-Ok-clause-fault
returns-in-Ok-clause-fault c =
    let text = c.args.text.now in
    IfErr-weaker c.triplets_of.result (IsOutOfMemoryOr (IsErrorOfText text))
    (IsOutOfMemoryOr (IsFaultOfText text)) (widen text)
    (subst (λ (t : List ℕ). IfErr c.triplets_of.result (IsOutOfMemoryOr (IsErrorOfText t)))
    c.in-Ok.ensures.cases.0 c.triplets_of.ensures.fault)
