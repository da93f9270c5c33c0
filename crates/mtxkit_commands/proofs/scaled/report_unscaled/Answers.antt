use Rattle.std.proofs.Common.{string_bytes}
use Rattle.mtxkit_commands.proofs.Reports.{reported}
use Rattle.mtxkit_commands.proofs.scaled.report_unscaled.Goals as goal

pub returns-clause-reported : goal.returns-clause-reported
returns-clause-reported g c =
    reported string_bytes c.unscaled_line.result _ _ _ _ _ c.unscaled_line.ensures
    c.write_line.ensures.line c.write_line.ensures.memory
