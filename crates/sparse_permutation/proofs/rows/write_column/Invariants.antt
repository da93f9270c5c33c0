use Rattle.std.proofs.Common.{get_or, nat_lt, ◌&&◌, ◌==◌, if◌then◌else◌}
use Rattle.sparse_coo_dense.specs.Dense.{HasValues, value_at}
use Rattle.sparse_permutation.proofs.rows.write_column.Given as goal

abbrev pub invariant-loop-i : goal.invariant-loop-i
invariant-loop-i g l = HasValues l.a.nrows l.a.ncols (λ k m z. if m == l.j && nat_lt k l.i
    then value_at l.a (get_or l.order k 0) m z else value_at l.initial.permuted k m z) l.permuted
