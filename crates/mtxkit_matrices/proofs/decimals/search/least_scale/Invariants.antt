use Rattle.std.proofs.Common.{◌<◌, ◌-◌, ◌^◌, ℕ}
use Rattle.mtxkit_matrices.specs.ScaledTexts.{CanBeScaled}
use Rattle.mtxkit_matrices.proofs.decimals.search.least_scale.Given as goal

abbrev pub invariant-loop-written : goal.invariant-loop-written
invariant-loop-written l = (less : ℕ) → less < l.scale → CanBeScaled less l.text → ⊥

abbrev pub decreases-loop-written : goal.decreases-loop-written
decreases-loop-written l = 2 ^ 32 - l.scale
