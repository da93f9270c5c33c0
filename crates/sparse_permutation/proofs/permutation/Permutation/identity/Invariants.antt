use Rattle.std.proofs.Common.{◌≡◌}
use Rattle.sparse_algebra.specs.Plain.{below}
use Rattle.sparse_permutation.proofs.permutation.Permutation.identity.Given as goal

abbrev pub invariant-loop-index : goal.invariant-loop-index
invariant-loop-index l = l.order.items ≡ below l.index
