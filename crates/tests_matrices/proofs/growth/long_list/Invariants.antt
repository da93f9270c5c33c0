use Rattle.std.proofs.Common.{◌≡◌}
use Rattle.tests_matrices.proofs.growth.long_list.Given as goal

abbrev pub invariant-loop-number : goal.invariant-loop-number
invariant-loop-number l = (l.list.nrows ≡ 1) × (l.list.ncols ≡ 1)
