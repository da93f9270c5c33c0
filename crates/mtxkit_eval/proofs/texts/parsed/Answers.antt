use Rattle.std.proofs.Common.{sym, subst, refl}
use Rattle.sparse_expr.specs.PostfixWords.{words_of, IsRefused}
use Rattle.mtxkit_eval.specs.Evaluated.{IsUnparsed}
use Rattle.mtxkit_eval.proofs.Outcomes.{faulted}
use Rattle.mtxkit_eval.proofs.texts.parsed.Goals as goal

pub returns-in-Err-clause-refused : goal.returns-in-Err-clause-refused
returns-in-Err-clause-refused c =
    let words = c.args.words.now in
    subst (IsUnparsed words) (sym c.expression_fault.ensures)
    (faulted (IsUnparsed words) (IsRefused (words_of words)) refl (λ e refused. refused)
    c.in-Err.error c.in-Err.ensures.refused)
