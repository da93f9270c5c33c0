use Rattle.std.proofs.Common.{◌*◌, ◌<◌, List, length, All, arith}
use Rattle.sparse_dense_ops.specs.DenseOperands.{op_dense}
use Rattle.sparse_dense_ops.specs.InnerUpdates.{HasStrided, op_step}
use Rattle.sparse_dense_ops.proofs.ColumnUpdates.{updated_more}
use Rattle.sparse_dense_ops.proofs.DotSteps.{lane_entry}
use Rattle.sparse_dense_ops.proofs.products.gather.gather_four.Goals as goal

pub dot_four-s0-requires : goal.dot_four-s0-requires
dot_four-s0-requires g c =
    let b = c.args.change.now.b in
    let inside : (xs : List g.row.T.Denot)
    → HasStrided xs (op_step b) (op_dense g.T.Ring.ring g.T.Ring.value b).rows
    → All (λ k. k * c.step_of-step.result < length xs) c.lane_slices.result.0.now = λ xs h q d lt.
    rw c.step_of-step.ensures
    (h _ (omega (arith, c.lane_slices.ensures.inside q d lt, c.requires.inner))) in
    record {
      fits = c.lane_slices.ensures.fits;
      first = inside c.column_of-x0.result.now c.column_of-x0.ensures.inside;
      second = inside c.column_of-x1.result.now c.column_of-x1.ensures.inside;
      third = inside c.column_of-x2.result.now c.column_of-x2.ensures.inside;
      fourth = inside c.column_of-x3.result.now c.column_of-x3.ensures.inside;
    }

pub overflow_add-j : goal.overflow_add-j
overflow_add-j g c = omega (arith, c.requires.fits)

pub overflow_add-j-2 : goal.overflow_add-j-2
overflow_add-j-2 g c = omega (arith, c.requires.fits)

pub overflow_add-j-3 : goal.overflow_add-j-3
overflow_add-j-3 g c = omega (arith, c.requires.fits)

pub loop-i-preserved : goal.loop-i-preserved
loop-i-preserved g c =
    let R = g.T.Ring.ring in
    let f = g.T.Ring.value in
    let b = op_dense R f c.args.change.now.b in
    let lane = c.lane_slices.ensures in
    let row : c.loop-i.i < c.args.change.now.a.now.pattern.major_dim =
    omega (arith, c.loop-i-test.true, c.requires.rows) in
    let step = c.step_of-step.ensures in
    let was = c.loop-i.invariant in
    let sums = c.dot_four-s0.ensures in
    record {
      first = updated_more was.first c.update_entry.ensures
          (lane_entry R f g.T.Zero.zero_value b lane.sound row lane.indices lane.values
          c.requires.inner (rw (← step) at c.column_of-x0.ensures.entries) sums.first);
      second = updated_more was.second c.update_entry-in-loop-i.ensures
          (lane_entry R f g.T.Zero.zero_value b lane.sound row lane.indices lane.values
          c.requires.inner (rw (← step) at c.column_of-x1.ensures.entries) sums.second);
      third = updated_more was.third c.update_entry-in-loop-i-2.ensures
          (lane_entry R f g.T.Zero.zero_value b lane.sound row lane.indices lane.values
          c.requires.inner (rw (← step) at c.column_of-x2.ensures.entries) sums.third);
      fourth = updated_more was.fourth c.update_entry-in-loop-i-3.ensures
          (lane_entry R f g.T.Zero.zero_value b lane.sound row lane.indices lane.values
          c.requires.inner (rw (← step) at c.column_of-x3.ensures.entries) sums.fourth);
    }
