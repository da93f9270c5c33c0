use Rattle.std.proofs.Common.{length}
use Rattle.sparse_faults.specs.InnerFirstFaults.{AreSkipped}
use Rattle.sparse_faults.proofs.counted_lines.first_content.Given as goal

abbrev pub invariant-loop-rest : goal.invariant-loop-rest
invariant-loop-rest l = AreSkipped l.skips_comments l.text l.first l.number l.rest

abbrev pub decreases-loop-rest : goal.decreases-loop-rest
decreases-loop-rest l = length l.rest
