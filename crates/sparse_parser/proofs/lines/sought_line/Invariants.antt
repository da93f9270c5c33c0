use Rattle.std.proofs.Common.{length}
use Rattle.sparse_parser.proofs.FirstLines.{IsSought}
use Rattle.sparse_parser.proofs.lines.sought_line.Given as goal

abbrev pub invariant-loop-rest : goal.invariant-loop-rest
invariant-loop-rest l = IsSought l.text l.rest

abbrev pub decreases-loop-rest : goal.decreases-loop-rest
decreases-loop-rest l = length l.rest
