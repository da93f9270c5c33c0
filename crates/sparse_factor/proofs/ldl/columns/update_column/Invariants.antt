use Rattle.std.proofs.Common.{◌≡◌, ◌-◌, length}
use Rattle.sparse_compressed.specs.Compressed.{compressed_of}
use Rattle.sparse_dense_ops.specs.SparseVectors.{elements}
use Rattle.sparse_factor.proofs.RowEntries.{IsRowRead}
use Rattle.sparse_factor.proofs.ldl.columns.update_column.Given as goal

abbrev pub invariant-loop-q : goal.invariant-loop-q
invariant-loop-q g l = record {
  count : length l.cursors ≡ length l.initial.cursors;
  rows : length l.column ≡ length l.initial.column;
  read : IsRowRead g.T.Ring.ring g.T.Ring.value g.T.Zero.zero_value
      (compressed_of l.pattern l.values) l.j l.row l.initial.column l.q l.cursors
      (elements g.T.Ring.ring g.T.Ring.value g.T.Zero.zero_value l.column);
}

abbrev pub decreases-loop-q : goal.decreases-loop-q
decreases-loop-q g l = length l.row - l.q
