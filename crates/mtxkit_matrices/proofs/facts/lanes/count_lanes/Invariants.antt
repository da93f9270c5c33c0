use Rattle.std.proofs.Common.{◌≡◌, ◌≤◌}
use Rattle.mtxkit_matrices.specs.Lanes.{count_below, has_size_in}
use Rattle.mtxkit_matrices.proofs.facts.lanes.count_lanes.Given as goal

abbrev pub invariant-loop-lane : goal.invariant-loop-lane
invariant-loop-lane l = record {
  count : l.count ≡ count_below l.lane (has_size_in l.pattern l.from l.to);
  within : l.count ≤ l.lane;
}
