use Rattle.std.proofs.Common.{◌≡◌, ◌++◌, replicate, string_bytes}
use Rattle.mtxkit_matrices.proofs.facts.lines.push_marks.Given as goal

abbrev pub invariant-loop : goal.invariant-loop
invariant-loop l = string_bytes l.lines ≡ string_bytes l.initial.lines ++ replicate l.counter 35
