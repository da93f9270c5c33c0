use Rattle.std.proofs.Common.{◌-◌}
use Rattle.sparse_products.specs.InnerIndexSets.{IsEmptyIndexSet}
use Rattle.sparse_products.proofs.serial.rows.estimate_nnz.Given as goal

abbrev pub invariant-loop-i : goal.invariant-loop-i
invariant-loop-i l = IsEmptyIndexSet l.b.minor_dim l.set

abbrev pub decreases-loop-i : goal.decreases-loop-i
decreases-loop-i l = l.a.major_dim - l.i
