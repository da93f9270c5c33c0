use Rattle.std.proofs.Common.{inl, inr, map, string_bytes, sym, subst}
use Rattle.std.proofs.lemmas.Result.{err_from_is_err_and}
use Rattle.mtxkit_eval.specs.Evaluated.{IsEvalFailure, WritesValue}
use Rattle.mtxkit_arguments.specs.Files.{paths}
use Rattle.mtxkit_commands.proofs.Evaluating.{eval-error}
use Rattle.mtxkit_commands.proofs.evaluated.evaluated_of.Goals as goal

pub returns-in_err-contents-clause-failed : goal.returns-in_err-contents-clause-failed
returns-in_err-contents-clause-failed g c =
    let p = err_from_is_err_and c.from_residual.result c.from_residual.ensures.1 in
    rw (p.1, p.2) (elim c.in_err-contents.ensures.unread [
      | inl memory ↦ inl memory
      | inr unread ↦ inr (inl unread)
    ])

pub returns-in_err-eval_text-clause-failed : goal.returns-in_err-eval_text-clause-failed
returns-in_err-eval_text-clause-failed g c =
    let p = err_from_is_err_and c.from_residual-in_err-eval_text.result
    c.from_residual-in_err-eval_text.ensures.1 in
    let error = c.in_err-eval_text.field-0.0 in
    rw (p.1, p.2) (eval-error c.args.modulus c.args.words.now (paths c.args.files.now) _ _ error
    (record {
      texts = map string_bytes c.in_ok-contents.contents.items;
      read = c.in_ok-contents.ensures.read;
      holds = subst (λ texts. IsEvalFailure c.args.modulus c.args.words.now (map string_bytes texts)
          error) c.deref.ensures.value c.in_err-eval_text.ensures.refused;
    }))

pub returns-clause-answer : goal.returns-clause-answer
returns-clause-answer g c = record {
  texts = map string_bytes c.in_ok-contents.contents.items;
  read = c.in_ok-contents.ensures.read;
  holds = subst (λ v. WritesValue c.args.modulus c.args.order c.args.words.now
      (map string_bytes c.in_ok-contents.contents.items) v.items) (sym c.into_bytes.ensures.value)
      (subst (λ texts. WritesValue c.args.modulus c.args.order c.args.words.now
      (map string_bytes texts) (string_bytes c.in_ok-eval_text.field-0)) c.deref.ensures.value
      c.in_ok-eval_text.ensures.written);
}
