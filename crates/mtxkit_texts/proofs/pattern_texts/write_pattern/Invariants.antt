use Rattle.std.specs.Prelude.{string_bytes}
use Rattle.mtxkit_texts.proofs.EntryLines.{IsBegun}
use Rattle.mtxkit_texts.proofs.pattern_texts.write_pattern.Given as goal

abbrev pub invariant-loop-row : goal.invariant-loop-row
invariant-loop-row l = IsBegun l.pattern (string_bytes l.text) l.row-iterator
