use Rattle.std.proofs.Common.{[], List, sym, subst, ◌∙◌}
use Rattle.file_readings.specs.Readings.{Reading}
use Rattle.mtxkit_commands.specs.Logs.{readings_of, savings_of}
use Rattle.mtxkit_commands.specs.Outcomes.{HasFlushedAnswer}
use Rattle.mtxkit_commands.specs.Savings.{Saving}
use Rattle.mtxkit_commands.proofs.arguments.answer.Goals as goal

pub returns-clause-answered : goal.returns-clause-answered
returns-clause-answered g c = λ done.
    let readings = readings_of c.run_args.new.texts in
    let savings = savings_of c.run_args.new.files in
    let old = g.W.Write.contents c.args.out.now.inner in
    let new = g.W.Write.contents c.run_args.new.out.inner in (
      readings,
      savings,
      subst (λ (none : List Reading). HasFlushedAnswer none readings [] savings old new)
          c.new-texts.ensures
          (subst (λ (none : List Saving).
          HasFlushedAnswer (readings_of c.new-texts.result) readings none savings old new)
          c.new-files.ensures
          (c.run_args.ensures.answered (sym c.exit_code.ensures ∙ done))),
    )
