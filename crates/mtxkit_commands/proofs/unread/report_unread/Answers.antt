use Rattle.std.proofs.Common.{inl}
use Rattle.mtxkit_commands.proofs.unread.report_unread.Goals as goal

pub returns-clause-reported : goal.returns-clause-reported
returns-clause-reported g c = record {
  line = c.as_bytes.result.now;
  names = inl (rw c.as_bytes.ensures.value c.unread_line.ensures);
  written = c.write_message.ensures;
}
