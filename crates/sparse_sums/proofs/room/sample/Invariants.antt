use Rattle.std.proofs.Common.{◌≤◌}
use Rattle.sparse_sums.proofs.room.sample.Given as goal

abbrev pub invariant-loop-k : goal.invariant-loop-k
invariant-loop-k l = l.shared ≤ l.seen
