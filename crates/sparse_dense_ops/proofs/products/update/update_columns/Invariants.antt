use Rattle.std.proofs.Common.{◌-◌, ◌≤◌}
use Rattle.sparse_algebra.specs.Plain.{plain_product}
use Rattle.sparse_compressed.specs.PlainOfLanes.{plain_of_rows}
use Rattle.sparse_dense_ops.specs.DenseOperands.{op_dense}
use Rattle.sparse_dense_ops.specs.InnerBlocks.{AreChangedBelow}
use Rattle.sparse_dense_ops.specs.InnerUpdates.{UpdatesColumn}
use Rattle.sparse_algebra.specs.Prealloc.{plain_transpose_if}
use Rattle.sparse_dense_ops.proofs.products.update.update_columns.Given as goal

abbrev pub invariant-loop-j : goal.invariant-loop-j
invariant-loop-j g l =
    let R = g.T.Ring.ring in
    let f = g.T.Ring.value in
    record {
      within : l.j ≤ l.ncols;
      done : AreChangedBelow l.nrows l.j (UpdatesColumn R f g.T.Zero.zero_value (f l.change.beta)
          (f l.change.alpha) (plain_product R
          (plain_transpose_if R l.change.transposed (plain_of_rows R f l.change.a.now))
          (op_dense R f l.change.b)).value) l.initial.c l.c;
    }

abbrev pub decreases-loop-j : goal.decreases-loop-j
decreases-loop-j g l = l.ncols - l.j
