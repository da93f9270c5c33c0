use Rattle.std.proofs.Common.{string_bytes}
use Rattle.mtxkit_commands.proofs.Reports.{reported}
use Rattle.mtxkit_commands.proofs.evaluated.report_unevaluated.Goals as goal

pub returns-clause-reported : goal.returns-clause-reported
returns-clause-reported g c =
    reported string_bytes c.unevaluated_line.result _ _ _ _ _ c.unevaluated_line.ensures
    c.write_line.ensures.line c.write_line.ensures.memory
