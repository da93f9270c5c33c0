use Rattle.std.proofs.Common.{arith}
use Rattle.sparse_dense_ops.specs.DenseOperands.{op_dense}
use Rattle.sparse_dense_ops.proofs.ColumnUpdates.{updated_more}
use Rattle.sparse_dense_ops.proofs.DotSteps.{lane_entry}
use Rattle.sparse_dense_ops.proofs.products.gather.gather_column.Goals as goal

pub dot-sum-requires-clause-inside : goal.dot-sum-requires-clause-inside
dot-sum-requires-clause-inside g c = λ q d lt. rw c.step_of-step.ensures
    (c.column_of-x.ensures.inside _
    (omega (arith, c.lane_slices.ensures.inside q d lt, c.requires.inner)))

pub loop-i-preserved : goal.loop-i-preserved
loop-i-preserved g c =
    let R = g.T.Ring.ring in
    let f = g.T.Ring.value in
    let lane = c.lane_slices.ensures in
    updated_more c.loop-i.invariant c.update_entry.ensures
    (lane_entry R f g.T.Zero.zero_value (op_dense R f c.args.change.now.b) lane.sound
    (omega (arith, c.loop-i-test.true, c.requires.rows)) lane.indices lane.values
    c.requires.inner (rw (← c.step_of-step.ensures) at c.column_of-x.ensures.entries)
    c.dot-sum.ensures)
