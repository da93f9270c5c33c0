use Rattle.std.proofs.Common.{◌≡◌, ◌+◌, ◌*◌}
use Rattle.std.specs.Prelude.{vec_len, vec_capacity}
use Rattle.sparse_coo_dense.proofs.BlockLemmas.{IsPushed}
use Rattle.sparse_coo_dense.proofs.coo.push_matrix.push_block.Given as goal

abbrev pub invariant-loop-j : goal.invariant-loop-j
invariant-loop-j g l = record {
  pushed : IsPushed l.r l.c l.matrix l.initial.rows.items l.initial.cols.items
      l.initial.values.items l.j 0 l.rows.items l.cols.items l.values.items;
  row_len : vec_len l.rows ≡ vec_len l.initial.rows + l.j * l.matrix.nrows;
  col_len : vec_len l.cols ≡ vec_len l.initial.cols + l.j * l.matrix.nrows;
  len : vec_len l.values ≡ vec_len l.initial.values + l.j * l.matrix.nrows;
  row_room : vec_capacity l.rows ≡ vec_capacity l.initial.rows;
  col_room : vec_capacity l.cols ≡ vec_capacity l.initial.cols;
  room : vec_capacity l.values ≡ vec_capacity l.initial.values;
}

abbrev pub invariant-loop-i : goal.invariant-loop-i
invariant-loop-i g l = record {
  pushed : IsPushed l.r l.c l.matrix l.fn.rows.items l.fn.cols.items l.fn.values.items l.j l.i
      l.rows.items l.cols.items l.values.items;
  row_len : vec_len l.rows ≡ vec_len l.initial.rows + l.i;
  col_len : vec_len l.cols ≡ vec_len l.initial.cols + l.i;
  len : vec_len l.values ≡ vec_len l.initial.values + l.i;
  row_room : vec_capacity l.rows ≡ vec_capacity l.initial.rows;
  col_room : vec_capacity l.cols ≡ vec_capacity l.initial.cols;
  room : vec_capacity l.values ≡ vec_capacity l.initial.values;
}
