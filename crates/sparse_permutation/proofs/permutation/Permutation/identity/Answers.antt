use Rattle.std.proofs.Common.{sym, subst}
use Rattle.sparse_permutation.specs.Permutations.{IsOrder}
use Rattle.sparse_permutation.proofs.Orders.{identity_order}
use Rattle.sparse_permutation.proofs.permutation.Permutation.identity.Goals as goal

pub invariant_of-result : goal.invariant_of-result
invariant_of-result c = subst IsOrder (sym c.loop-index.invariant) (identity_order c.loop-index.index)
