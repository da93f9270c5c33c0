use Rattle.std.proofs.Common.{ℕ, ◌≤◌}
use Rattle.sparse_pattern.specs.InnerPatternFaults.{IsRisingBelow}
use Rattle.reference_models.proofs.pattern_faults.lane_fault.Given as goal

abbrev pub invariant-loop-at : goal.invariant-loop-at
invariant-loop-at l = (q : ℕ) → q ≤ l.at → q ≤ l.end → IsRisingBelow l.minor_dim l.indices l.start q
