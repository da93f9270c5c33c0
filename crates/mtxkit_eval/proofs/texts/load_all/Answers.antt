use Rattle.std.proofs.Common.{◌+◌, inr, string_bytes, ap, subst, ◌∙◌}
use Rattle.std.proofs.lemmas.Result.{err_from_is_err_and}
use Rattle.mtxkit_texts.specs.Loaded.{MeansWhole, IsWholeFailure}
use Rattle.mtxkit_eval.proofs.LoadedTexts.{all-meant, first-failed, one-more-meant}
use Rattle.mtxkit_eval.proofs.texts.load_all.Goals as goal

pub loop-index-preserved : goal.loop-index-preserved
loop-index-preserved c =
    let loaded = c.in_ok-loaded.loaded in
    one-more-meant string_bytes c.args.texts.now c.loop-index.index c.index-texts-index.result
    c.loop-index-test.true
    c.loop-index.matrices.items c.loop-index.invariant loaded.matrix _ (
      loaded.entries,
      subst (λ t. MeansWhole t loaded.entries loaded.matrix) (c.as_str.ensures.value
          ∙ ap string_bytes c.index-texts-index.is) c.in_ok-loaded.ensures.meant,
    ) c.in_ok-push.ensures.items

pub returns-in_err-loaded-clause-refused : goal.returns-in_err-loaded-clause-refused
returns-in_err-loaded-clause-refused c =
    let p = err_from_is_err_and c.from_residual.result c.from_residual.ensures.1 in
    rw (p.1, p.2) (inr (first-failed string_bytes c.args.texts.now c.loop-index.index
    c.index-texts-index.result c.loop-index-test.true c.loop-index.matrices.items c.loop-index.invariant
    c.in_err-loaded.field-0.0
    (subst (λ t. IsWholeFailure (c.loop-index.index + 1) t c.in_err-loaded.field-0.0)
    (c.as_str.ensures.value ∙ ap string_bytes c.index-texts-index.is)
    c.in_err-loaded.ensures.refused)))

pub returns-clause-meant : goal.returns-clause-meant
returns-clause-meant c = all-meant string_bytes c.args.texts.now c.loop-index.index
    c.loop-index.matrices.items c.loop-index-test.false c.loop-index.invariant
