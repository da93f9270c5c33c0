use Rattle.std.proofs.Common.{◌∙◌}
use Rattle.sparse_compressed.proofs.LaneValues.{row_sum}
use Rattle.sparse_dense_ops.specs.SparseVectors.{elements}
use Rattle.sparse_dense_ops.proofs.kernels.lane.dot_lane.Goals as goal

pub returns-clause-product : goal.returns-clause-product
returns-clause-product g c =
    let R = g.T.Ring.ring in
    let f = g.T.Ring.value in
    let z = g.T.Zero.zero_value in
    let lane = c.lane_slices.ensures in
    let is = rw (lane.indices, lane.values) at c.usdot.ensures in
    is ∙ row_sum R f z c.args.a.now lane.sound c.args.i c.requires.lane
    (elements R f z c.args.x.now)
