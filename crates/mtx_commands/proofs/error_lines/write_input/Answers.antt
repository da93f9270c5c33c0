use Rattle.std.proofs.Common.{inr}
use Rattle.mtx_commands.proofs.error_lines.write_input.Goals as goal

pub returns-in-Err : goal.returns-in-Err
returns-in-Err g c = inr c.write_message-in-Err.ensures
