use Rattle.std.proofs.Common.{◌∙◌, sym}
use Rattle.mtx_commands.proofs.Failures.{status_of-usage, status_of-positive}
use Rattle.mtx_commands.proofs.cli.command_over.Goals as goal

pub returns-in-Err-clause-quiet : goal.returns-in-Err-clause-quiet
returns-in-Err-clause-quiet g c = λ zero.
    absurd (status_of-positive c.in-Err.failure (sym c.report.ensures.status ∙ zero))

pub returns-in-Err-clause-usage : goal.returns-in-Err-clause-usage
returns-in-Err-clause-usage g c = rw c.report.ensures.status
    (status_of-usage _ _ _ c.in-Err.failure _ c.in-Err.ensures.failed)
