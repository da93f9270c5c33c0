use Rattle.std.proofs.Common.{◌∙◌, ap, drop, subst, List, ℕ}
use Rattle.nalgebra_sparse.specs.PostfixWords.{texts}
use Rattle.nalgebra_sparse.specs.Run.{effect}
use Rattle.mtx_commands.specs.Commands.{IsAnswered}
use Rattle.mtx_commands.specs.Outcomes.{EndsProgram}
use Rattle.mtx_commands.proofs.Ended.{ends_command, ends_flushed, ends_unstarted}
use Rattle.mtx_commands.proofs.arguments.run_words.Goals as goal

pub returns-clause-ended : goal.returns-clause-ended
returns-clause-ended g c =
    let before = g.T.Texts.readings c.args.inputs.now in
    let after = g.T.Texts.readings c.command_over.new.inputs in
    let out = effect (g.W.Write.contents c.args.out.now.inner)
    (g.W.Write.contents c.command_over.new.out.inner) c.args.out.now.failures
    c.command_over.new.out.failures c.command_over.new.out.last in
    let err = effect (g.E.Sink.accepted c.args.err.now) (g.E.Sink.accepted c.command_over.new.err)
    (g.E.Sink.failures c.args.err.now) (g.E.Sink.failures c.command_over.new.err)
    (g.E.Sink.last c.command_over.new.err) in
    let words = c.after_name.ensures ∙ ap (λ v. drop 1 (texts v)) c.deref.ensures.value
    ∙ ap (drop 1) c.in-Ok.ensures.same in
    subst (λ (ws : List (List ℕ)). EndsProgram ws before after out err c.command_over.result) words
    (ends_command _ before after err c.command_over.result out c.command_over.ensures.answered
    c.command_over.ensures.begun c.command_over.ensures.failed)

pub returns-in-0-clause-ended : goal.returns-in-0-clause-ended
returns-in-0-clause-ended g c =
    let old = g.W.Write.contents c.args.out.now.inner in
    let mid = g.W.Write.contents c.command_over.new.out.inner in
    let before = g.T.Texts.readings c.args.inputs.now in
    let after = g.T.Texts.readings c.command_over.new.inputs in
    let err = effect (g.E.Sink.accepted c.args.err.now) (g.E.Sink.accepted c.finish.new.err)
    (g.E.Sink.failures c.args.err.now) (g.E.Sink.failures c.finish.new.err)
    (g.E.Sink.last c.finish.new.err) in
    let words = c.after_name.ensures ∙ ap (λ v. drop 1 (texts v)) c.deref.ensures.value
    ∙ ap (drop 1) c.in-Ok.ensures.same in
    let accepted = c.command_over.ensures.silent c.in-0.is in
    let failures = c.command_over.ensures.quiet c.in-0.is in
    ends_flushed _ before after err c.finish.result old mid _ _ _ _
    (subst (λ (ws : List (List ℕ)). IsAnswered ws before after old mid) words
    (c.command_over.ensures.answered c.in-0.is))
    c.finish.ensures.kept
    (c.finish.ensures.unfailed ∙ c.command_over.ensures.unfailed c.in-0.is)
    c.finish.ensures.status
    (λ other. rw (← accepted, ← failures) (c.finish.ensures.reported other))

pub returns-in_default-clause-ended : goal.returns-in_default-clause-ended
returns-in_default-clause-ended g c =
    ends_unstarted _ _ _ _ _ _ _ c.report.ensures.status c.report.ensures.reported
