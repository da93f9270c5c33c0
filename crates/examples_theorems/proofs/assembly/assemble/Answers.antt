use Rattle.std.proofs.Common.{◌≡◌, ◌*◌, length, ap, sym, ◌∙◌}
use Rattle.nalgebra_sparse.specs.Blocks.{block_triplets}
use Rattle.examples_theorems.specs.Assembly.{placed_block}
use Rattle.examples_theorems.proofs.PlainTotals.{total_appended}
use Rattle.examples_theorems.proofs.AssembledBlocks.{block-placed}
use Rattle.examples_theorems.proofs.assembly.assemble.Goals as goal

pub loop-block-preserved : goal.loop-block-preserved
loop-block-preserved g c =
    let R = g.T.Ring.ring in
    let f = g.T.Ring.value in
    let n = c.args.nrows in
    let m = c.args.ncols in
    let b = c.block-item.result in
    let full : length b.matrix.values ≡ b.matrix.nrows * b.matrix.ncols =
    sym (ap length c.as_slice.ensures.values) ∙ c.as_slice.ensures.count in
    total_appended R f n m (placed_block R f n m) c.loop-block.list c.push_matrix.new.self
    c.args.blocks.now c.loop-block.block-index b (block_triplets b.row b.col b.matrix)
    c.in_ok-push_matrix.ensures.ok c.loop-block-test.true c.block-item.is
    (block-placed R f g.T.Zero.zero_value g.met.T.Ring.zero_law n m b full)
    c.loop-block.invariant
