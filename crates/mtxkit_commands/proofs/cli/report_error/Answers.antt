use Rattle.mtxkit_commands.proofs.Reports.{failure_reported}
use Rattle.mtxkit_commands.proofs.cli.report_error.Goals as goal

pub returns-in-Failed-clause-reported : goal.returns-in-Failed-clause-reported
returns-in-Failed-clause-reported g c = rw c.in-Failed.is
    (failure_reported _ _ _ _ c.args.command c.in-Failed.failure c.report_failure.ensures.reported
    c.report_failure.ensures.memory)
