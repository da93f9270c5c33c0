use Rattle.std.proofs.Common.{◌≡◌}
use Rattle.examples_theorems.specs.Walking.{TakesSteps}
use Rattle.examples_theorems.proofs.reach.take_steps.Given as goal

abbrev pub invariant-loop-length : goal.invariant-loop-length
invariant-loop-length l = record {
  major : l.reached.major_dim ≡ l.fn.start.major_dim;
  minor : l.reached.minor_dim ≡ l.fn.start.minor_dim;
  steps : TakesSteps l.step l.fn.start l.length l.reached;
}
