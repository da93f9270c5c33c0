use Rattle.sparse_pattern.specs.Raw.{raw_of}
use Rattle.sparse_pattern.proofs.FirstFaults.{LanesFine}
use Rattle.reference_models.proofs.pattern_faults.pattern_fault.Given as goal

abbrev pub invariant-loop-lane : goal.invariant-loop-lane
invariant-loop-lane l = LanesFine (raw_of l.major_dim l.minor_dim l.offsets l.indices) l.lane
