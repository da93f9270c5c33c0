-- written by tools/answer-goals
use Rattle.std.proofs.Common.{rules}
use Rattle.mtx_commands.proofs.cli.Failure.status.Goals as goal

pub returns-in-Usage : goal.returns-in-Usage
returns-in-Usage c = search rules

pub returns-in-Refused : goal.returns-in-Refused
returns-in-Refused c = search rules
