use Rattle.std.proofs.Common.{◌≡◌}
use Rattle.tests_matrices.proofs.sizes.long_list.Given as goal

abbrev pub invariant-loop-number : goal.invariant-loop-number
invariant-loop-number l = (l.coo.nrows ≡ 3) × (l.coo.ncols ≡ 5)
