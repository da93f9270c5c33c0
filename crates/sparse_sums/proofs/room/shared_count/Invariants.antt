use Rattle.std.proofs.Common.{◌+◌, ◌-◌, ◌≤◌, length}
use Rattle.sparse_sums.proofs.room.shared_count.Given as goal

abbrev pub invariant-loop-p : goal.invariant-loop-p
invariant-loop-p l = record {
  first : l.p ≤ length l.a;
  second : l.q ≤ length l.b;
  most : l.shared ≤ l.p;
}

abbrev pub decreases-loop-p : goal.decreases-loop-p
decreases-loop-p l = length l.a + length l.b - (l.p + l.q)
