use Rattle.std.proofs.Common.{length, ap, arith}
use Rattle.std.proofs.Math.Nat.{mul_comm}
use Rattle.sparse_algebra.specs.Plain.{plain_product}
use Rattle.sparse_compressed.specs.PlainOfLanes.{plain_of_rows}
use Rattle.sparse_dense_ops.specs.DenseOperands.{op_dense}
use Rattle.sparse_algebra.specs.Prealloc.{plain_transpose_if}
use Rattle.sparse_dense_ops.proofs.PlainUpdates.{no_rows, operands_proper, operands_within}
use Rattle.sparse_dense_ops.proofs.PlainUpdates.{updated_plain}
use Rattle.sparse_dense_ops.proofs.products.update.update.Goals as goal

pub returns-then-nrows-gt0-clause-updated : goal.returns-then-nrows-gt0-clause-updated
returns-then-nrows-gt0-clause-updated g c =
    let R = g.T.Ring.ring in
    let f = g.T.Ring.value in
    let a = plain_transpose_if R c.args.transposed (plain_of_rows R f c.args.a.now) in
    updated_plain R f g.T.Zero.zero_value g.met.T.Ring.zero_law (f c.args.beta) (f c.args.alpha)
    c.args.c.now (plain_product R a (op_dense R f c.args.b)) c.requires.rows c.requires.cols
    (operands_proper R f c.args.transposed c.args.a.now c.args.b)
    (operands_within R f c.args.transposed c.args.a.now c.args.b c.values.ensures.sound)
    c.update_columns.new.c
    (omega (
      arith,
      ap length c.as_mut_slice.ensures.values,
      c.as_mut_slice.ensures.count,
      mul_comm c.args.c.now.nrows c.args.c.now.ncols,
    ))
    (rw (c.nrows-then-nrows-gt0.ensures, c.ncols.ensures, c.as_mut_slice.ensures.values) at
    c.update_columns.ensures)

pub returns-else-nrows-gt0-clause-updated : goal.returns-else-nrows-gt0-clause-updated
returns-else-nrows-gt0-clause-updated g c =
    let R = g.T.Ring.ring in
    let f = g.T.Ring.value in
    let a = plain_transpose_if R c.args.transposed (plain_of_rows R f c.args.a.now) in
    no_rows R f g.T.Zero.zero_value g.met.T.Ring.zero_law (f c.args.beta) (f c.args.alpha)
    c.args.c.now (plain_product R a (op_dense R f c.args.b)) c.requires.rows c.requires.cols
    (operands_proper R f c.args.transposed c.args.a.now c.args.b)
    (operands_within R f c.args.transposed c.args.a.now c.args.b c.values.ensures.sound)
    (omega (arith, c.nrows.ensures, c.if-nrows-gt0.false))
