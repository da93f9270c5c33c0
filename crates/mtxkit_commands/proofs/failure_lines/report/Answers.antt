use Rattle.std.proofs.Common.{string_bytes}
use Rattle.mtxkit_commands.proofs.Reports.{memory_reported, reported}
use Rattle.mtxkit_commands.proofs.failure_lines.report.Goals as goal

pub returns-clause-reported : goal.returns-clause-reported
returns-clause-reported g c =
    reported string_bytes c.line_in_memory.result _ _ _ _ _ c.line_in_memory.ensures.line
    c.write_line.ensures.line c.write_line.ensures.memory

pub returns-clause-memory : goal.returns-clause-memory
returns-clause-memory g c =
    memory_reported c.line_in_memory.result c.args.failure _ _ _ _ c.line_in_memory.ensures.memory
    c.write_line.ensures.memory
