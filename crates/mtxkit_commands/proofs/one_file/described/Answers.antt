use Rattle.file_readings.proofs.Readings.{one_read}
use Rattle.mtxkit_commands.proofs.one_file.described.Goals as goal

pub returns-clause-answer : goal.returns-clause-answer
returns-clause-answer g c = (
  c.as_str.result.now,
  one_read _ _ _ _ _ c.in_ok-text.ensures.read c.as_str.ensures.value,
  rw (c.into_bytes.ensures.value) c.in_ok-info_text.ensures.written,
)
