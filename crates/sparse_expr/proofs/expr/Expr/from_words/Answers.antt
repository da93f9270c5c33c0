use Rattle.std.proofs.lemmas.Grind.{common_steps}
use Rattle.std.proofs.Common.{inl, inr, sym, subst, ap, refl, ◌∙◌, arith}
use Rattle.std.specs.List.{flat_map}
use Rattle.std.proofs.lemmas.Result.{MatchResult-weaker, err_from_is_err_and}
use Rattle.sparse_expr.specs.PostfixWords.{texts, words_of, postfix, IsRefused}
use Rattle.sparse_expr.specs.declared.error.ExprError.TheVariants.{BadWord}
use Rattle.sparse_expr.proofs.Postfix.{height-stack, fine-more, fine-all, ends-at}
use Rattle.sparse_expr.proofs.expr.Expr.from_words.Goals as goal

pub loop-word-preserved : goal.loop-word-preserved
loop-word-preserved c =
    let high = height-stack c.loop-word.stack.items in
    fine-more c.deref-word-items.result.now c.loop-word.word-index _ c.loop-word-test.true _
    c.loop-word.invariant c.in-Some.token _ (sym c.in-Some.ensures)
    (omega (arith, c.in_ok-apply-in-Some.ensures.enough)) c.in_ok-apply-in-Some.ensures.said

pub returns-in-None-clause-refused : goal.returns-in-None-clause-refused
returns-in-None-clause-refused c =
    let ws = ap texts c.deref-word-items.ensures.value ∙ c.in_ok-words.ensures
    ∙ ap words_of c.as_bytes.ensures.value in
    inr (subst (λ l. IsRefused l BadWord) ws
    (ends-at c.deref-word-items.result.now c.loop-word.word-index _ c.loop-word-test.true _
    c.loop-word.invariant BadWord (inl (sym c.in-None.ensures, refl))))

pub returns-in_err-apply-in-Some-clause-refused : goal.returns-in_err-apply-in-Some-clause-refused
returns-in_err-apply-in-Some-clause-refused c =
    let ws = ap texts c.deref-word-items.ensures.value ∙ c.in_ok-words.ensures
    ∙ ap words_of c.as_bytes.ensures.value in
    let high = height-stack c.loop-word.stack.items in
    let p = err_from_is_err_and c.from_residual-in_err-apply-in-Some.result
    c.from_residual-in_err-apply-in-Some.ensures.1 in
    let e = c.in_err-apply-in-Some.field-0.0 in
    rw (p.1, p.2) (elim c.in_err-apply-in-Some.ensures.refused [
      | inl memory ↦ inl memory
      | inr missing ↦ inr (subst (λ l. IsRefused l e) ws
          (ends-at c.deref-word-items.result.now c.loop-word.word-index _ c.loop-word-test.true _
          c.loop-word.invariant e
          (inr (c.in-Some.token, sym c.in-Some.ensures, omega (arith, missing.1), missing.0))))
    ])

pub returns-clause-refused : goal.returns-clause-refused
returns-clause-refused c =
    let ws = ap texts c.deref-word-items.ensures.value ∙ c.in_ok-words.ensures
    ∙ ap words_of c.as_bytes.ensures.value in
    let high = height-stack c.loop-word.stack.items in
    let fine = fine-all c.deref-word-items.result.now c.loop-word.word-index _
    c.loop-word-test.false c.loop-word.invariant in
    MatchResult-weaker c.only_one.result c.only_one.ensures.refused (λ x h. h)
    (λ e h. inr (subst (λ l. IsRefused l e) ws (inr (
      flat_map postfix c.loop-word.stack.items,
      fine,
      elim h [
        | inl none ↦ inl (omega (arith, none.0), none.1)
        | inr more ↦ inr (omega (arith, more.0), more.1)
      ],
    ))))

-- ---- written by tools/answer-goals

pub returns-clause-said : goal.returns-clause-said
returns-clause-said c = grind (arith, common_steps)
