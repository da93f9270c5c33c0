use Rattle.sparse_coo_dense.proofs.DenseLemmas.{IsFilled}
use Rattle.sparse_coo_dense.proofs.dense.column_by_column.Given as goal

abbrev pub invariant-loop-j : goal.invariant-loop-j
invariant-loop-j g l = IsFilled l.nrows l.ncols l.rows l.columns.items l.j 0

abbrev pub invariant-loop-i : goal.invariant-loop-i
invariant-loop-i g l = IsFilled l.nrows l.ncols l.rows l.columns.items l.j l.i
