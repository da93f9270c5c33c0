use Rattle.std.proofs.lemmas.Grind.{common_steps}
use Rattle.std.proofs.Common.{◌+◌, ◌≤◌, arith}
use Rattle.sparse_dense_ops.proofs.ColumnBlocks.{block_more}
use Rattle.sparse_dense_ops.proofs.products.update.update_columns.Goals as goal

pub loop-j-preserved : goal.loop-j-preserved
loop-j-preserved g c =
    let room : c.loop-j.j + c.width_of_block-width.result ≤ c.args.size.1 =
    omega (arith, c.width_of_block-width.ensures.within, c.loop-j-test.true) in
    record {
      within = room;
      done = block_more c.requires.count room c.loop-j.invariant.done c.update_block.ensures;
    }

-- ---- written by tools/answer-goals

pub offset_bounds-c-j : goal.offset_bounds-c-j
offset_bounds-c-j g c = grind (arith, common_steps)

pub overflow_mul-columns-in-loop-j : goal.overflow_mul-columns-in-loop-j
overflow_mul-columns-in-loop-j g c = grind (arith, common_steps)

pub slice_bounds-columns-end : goal.slice_bounds-columns-end
slice_bounds-columns-end g c = grind (arith, common_steps)
