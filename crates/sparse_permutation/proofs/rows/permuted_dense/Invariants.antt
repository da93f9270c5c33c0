use Rattle.std.proofs.Common.{get_or, nat_lt, if◌then◌else◌}
use Rattle.sparse_coo_dense.specs.Dense.{HasValues, value_at}
use Rattle.sparse_permutation.proofs.rows.permuted_dense.Given as goal

abbrev pub invariant-loop-j : goal.invariant-loop-j
invariant-loop-j g l = HasValues l.a.nrows l.a.ncols (λ k m z. if nat_lt m l.j
    then value_at l.a (get_or l.order k 0) m z else value_at l.a k m z) l.permuted
