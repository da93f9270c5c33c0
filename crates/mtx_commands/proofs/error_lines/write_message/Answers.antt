use Rattle.std.proofs.Common.{inl, inr}
use Rattle.mtx_commands.proofs.error_lines.write_message.Goals as goal

pub returns-in-Ok : goal.returns-in-Ok
returns-in-Ok g c = inl (rw c.as_bytes.ensures.value at c.in-Ok.ensures.all)

pub returns-in-Err : goal.returns-in-Err
returns-in-Err g c = inr c.in-Err.ensures.one_failed
