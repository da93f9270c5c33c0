use Rattle.std.proofs.Common.{◌≡◌, take}
use Rattle.sparse_permutation.specs.Permutations.{composed}
use Rattle.sparse_permutation.proofs.permutation.Permutation.followed_by.Given as goal

abbrev pub invariant-loop-index : goal.invariant-loop-index
invariant-loop-index l = l.composed.items ≡ composed l.order (take l.index-index l.index-items)
