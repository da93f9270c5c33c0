use Rattle.std.proofs.Common.{get_or, ap, ◌∙◌}
use Rattle.sparse_compressed.proofs.LaneValues.{lane_value_is}
use Rattle.sparse_dense_ops.proofs.kernels.lane.axpy_lane.Goals as goal

pub returns-clause-added : goal.returns-clause-added
returns-clause-added g c =
    let R = g.T.Ring.ring in
    let f = g.T.Ring.value in
    let z = g.T.Zero.zero_value in
    let lane = c.lane_slices.ensures in
    let added = rw (lane.indices, lane.values) at c.usaxpy.ensures in
    λ j lt. added j lt ∙ ap (λ v. R.add (f (get_or c.args.y.now j z)) (R.mul (f c.args.alpha) v))
    (lane_value_is R f z c.args.a.now lane.sound c.args.i c.requires.lane j)
