use Rattle.sparse_pattern.specs.InnerPatternFaults.{IsRisingBelow}
use Rattle.sparse_pattern.proofs.pattern.faults.check_lane.Given as goal

abbrev pub invariant-loop-at : goal.invariant-loop-at
invariant-loop-at l = IsRisingBelow l.minor_dim l.indices l.start l.at
