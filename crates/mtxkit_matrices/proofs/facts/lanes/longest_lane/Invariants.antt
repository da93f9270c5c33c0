use Rattle.std.proofs.Common.{◌≡◌, ◌<◌, ◌^◌}
use Rattle.mtxkit_matrices.specs.Lanes.{longest_below}
use Rattle.mtxkit_matrices.proofs.facts.lanes.longest_lane.Given as goal

abbrev pub invariant-loop-lane : goal.invariant-loop-lane
invariant-loop-lane l = record {
  longest : l.longest ≡ longest_below l.pattern l.lane;
  fits : l.longest < 2 ^ 60;
}
