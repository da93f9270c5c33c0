use Rattle.mtxkit_commands.proofs.Reports.{error_status-is, tells_error}
use Rattle.mtxkit_commands.proofs.cli.run.Goals as goal

pub returns-in-Err-clause-status : goal.returns-in-Err-clause-status
returns-in-Err-clause-status g c = rw c.report_error.ensures.status (error_status-is c.in-Err.error)

pub returns-in-Err-clause-tells : goal.returns-in-Err-clause-tells
returns-in-Err-clause-tells g c =
    tells_error _ _ _ _ c.args.command c.in-Err.error c.report_error.result
    c.report_error.ensures.status c.report_error.ensures.reported
