use Rattle.std.proofs.Common.{◌∙◌}
use Rattle.sparse_compressed.proofs.LaneValues.{row_sum}
use Rattle.sparse_dense_ops.specs.SparseVectors.{elements}
use Rattle.sparse_views.proofs.reading.dot_lane.Goals as goal

pub returns-clause-product : goal.returns-clause-product
returns-clause-product g c =
    let R = g.T.Ring.ring in
    let f = g.T.Ring.value in
    let z = g.T.Zero.zero_value in
    let is = rw (c.lane.ensures.indices, c.lane.ensures.values) at c.usdot.ensures in
    is ∙ row_sum R f z c.args.arrays.now c.lane.ensures.sound c.args.i c.requires.lane
    (elements R f z c.args.x.now)
