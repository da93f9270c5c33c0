use Rattle.std.proofs.lemmas.Grind.{common_steps}
use Rattle.std.proofs.Common.{◌≡◌, ◌+◌, Ok, Err, inl, inr, length}
use Rattle.std.proofs.Common.{map, ap, subst, ◌∙◌, string_bytes, arith}
use Rattle.std.proofs.lemmas.List.{map_push, length-map}
use Rattle.std.proofs.lemmas.Result.{err_from_is_err_and}
use Rattle.sparse_parser.specs.Meaning.{Means}
use Rattle.sparse_expr.specs.InnerRun.{numbers_of}
use Rattle.sparse_expr.specs.Run.{scalar64}
use Rattle.sparse_expr.proofs.Loading.{one-more-loaded, next-refused}
use Rattle.sparse_expr.proofs.calculator.load_owned.Goals as goal

pub loop-text-preserved : goal.loop-text-preserved
loop-text-preserved c =
    rw (ap (map numbers_of) c.in_ok-push.ensures.items
    ∙ map_push numbers_of c.loop-text.inputs.items c.in_ok-load.field-0)
    (one-more-loaded _ _ _ _ (ap (map string_bytes) c.in-Some.ensures.steps.0) _
    c.loop-text.invariant (numbers_of c.in_ok-load.field-0)
    (subst (λ t. Means scalar64 t (Ok (numbers_of c.in_ok-load.field-0))) c.as_str.ensures.value
    c.in_ok-load.ensures.meant))

pub returns-in_err-load-clause-refused : goal.returns-in_err-load-clause-refused
returns-in_err-load-clause-refused c =
    let p = err_from_is_err_and c.from_residual.result c.from_residual.ensures.1 in
    let counted : c.len.result + 1 ≡ length (map numbers_of c.loop-text.inputs.items) + 1 =
    rw length-map (grind (arith, common_steps)) in
    rw (p.1, p.2) (elim c.in_err-load.ensures.refused [
      | inl memory ↦ rw memory tt
      | inr refused ↦ rw refused.1 (next-refused _ _ _ _
          (ap (map string_bytes) c.in-Some.ensures.steps.0) _ c.loop-text.invariant _ refused.0
          counted (subst (λ t. Means scalar64 t (Err refused.0)) c.as_str.ensures.value refused.2))
    ])
