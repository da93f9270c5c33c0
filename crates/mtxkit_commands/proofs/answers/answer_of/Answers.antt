use Rattle.std.proofs.Common.{subst, sym}
use Rattle.mtxkit_commands.specs.Answers.{IsAnswer}
use Rattle.mtxkit_commands.proofs.answers.answer_of.Goals as goal

pub returns-in_ok-check_of-in-Check-clause-answer :
    goal.returns-in_ok-check_of-in-Check-clause-answer
returns-in_ok-check_of-in-Check-clause-answer g c =
    let old = g.T.Texts.readings c.args.texts.now in
    let new = g.T.Texts.readings c.check_of.new.texts in
    subst (λ command. IsAnswer command old new c.into_bytes-in-Check.result.items)
    (sym c.in-Check.is)
    (rw (c.into_bytes-in-Check.ensures.value) c.in_ok-check_of-in-Check.ensures.answer)

pub returns-in_ok-described-in-Info-clause-answer :
    goal.returns-in_ok-described-in-Info-clause-answer
returns-in_ok-described-in-Info-clause-answer g c =
    let old = g.T.Texts.readings c.args.texts.now in
    let new = g.T.Texts.readings c.described.new.texts in
    subst (λ command. IsAnswer command old new c.in_ok-described-in-Info.field-0.items)
    (sym c.in-Info.is) c.in_ok-described-in-Info.ensures.answer
