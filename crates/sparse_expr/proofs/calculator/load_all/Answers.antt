use Rattle.std.proofs.Common.{inl, inr, map, ap, ◌∙◌}
use Rattle.std.proofs.lemmas.List.{map_push}
use Rattle.std.proofs.lemmas.Result.{err_from_is_err_and}
use Rattle.sparse_expr.specs.InnerRun.{numbers_of}
use Rattle.sparse_expr.proofs.Loading.{AllMean-more, AllMean-all, refused-at}
use Rattle.sparse_expr.proofs.calculator.load_all.Goals as goal

pub loop-index-preserved : goal.loop-index-preserved
loop-index-preserved c =
    AllMean-more c.args.sources.now c.loop-index.index _ c.loop-index-test.true _
    c.loop-index.invariant (numbers_of c.in_ok-load.field-0) _ c.in_ok-load.ensures.meant
    (ap (map numbers_of) c.in_ok-push.ensures.items ∙ map_push numbers_of c.loop-index.inputs.items
    c.in_ok-load.field-0)

pub returns-in_err-load-clause-refused : goal.returns-in_err-load-clause-refused
returns-in_err-load-clause-refused c =
    let p = err_from_is_err_and c.from_residual.result c.from_residual.ensures.1 in
    rw (p.1, p.2) (elim c.in_err-load.ensures.refused [
      | inl memory ↦ rw memory tt
      | inr refused ↦ rw refused.1 (refused-at c.args.sources.now c.loop-index.index _
          c.loop-index-test.true _ c.loop-index.invariant refused.0 refused.2)
    ])

pub returns-clause-meant : goal.returns-clause-meant
returns-clause-meant c = AllMean-all c.args.sources.now c.loop-index.index _ c.loop-index-test.false
    c.loop-index.invariant
