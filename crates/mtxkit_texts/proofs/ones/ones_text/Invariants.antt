use Rattle.std.proofs.Common.{length, string_bytes}
use Rattle.mtxkit_texts.specs.InnerOnes.{AreOnesAbove}
use Rattle.mtxkit_texts.proofs.ones.ones_text.Given as goal

abbrev pub invariant-loop-rest : goal.invariant-loop-rest
invariant-loop-rest l = AreOnesAbove l.text l.stage l.rest (string_bytes l.ones)

abbrev pub decreases-loop-rest : goal.decreases-loop-rest
decreases-loop-rest l = length l.rest
