use Rattle.std.proofs.Common.{◌≡◌}
use Rattle.tests_matrices.proofs.growth.capacities.Given as goal

abbrev pub invariant-loop : goal.invariant-loop
invariant-loop l = (l.matrix.nrows ≡ 1) × (l.matrix.ncols ≡ 1)
