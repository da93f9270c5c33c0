use Rattle.std.proofs.Common.{sym, ◌∙◌}
use Rattle.mtxkit_texts.proofs.OneWords.{copy-utf8, copy-other}
use Rattle.mtxkit_texts.proofs.ones.text_of.Goals as goal

pub returns-in-Ok : goal.returns-in-Ok
returns-in-Ok c = c.in-Ok.ensures.cases.0
    ∙ sym (copy-utf8 c.args.word.now c.in-Ok.ensures.cases.1)

pub returns-in-Err : goal.returns-in-Err
returns-in-Err c = sym (copy-other c.args.word.now c.in-Err.ensures.cases.0)
