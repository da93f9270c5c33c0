use Rattle.std.proofs.Common.{◌<◌, subst}
use Rattle.sparse_pattern.proofs.OffsetsInLanes.{indices_below}
use Rattle.sparse_products.proofs.ProductLanes.{lane_below}
use Rattle.sparse_products.proofs.serial.rows.estimate_nnz.Goals as goal

pub count_indices-all-requires : goal.count_indices-all-requires
count_indices-all-requires c = rw (c.minor_indices.ensures.indices, ← c.requires.inner)
    (indices_below c.args.a.now c.minor_indices.ensures.valid)

pub count_indices-requires : goal.count_indices-requires
count_indices-requires c = rw (c.lane.ensures, ← c.requires.inner)
    (lane_below c.args.a.now c.minor_indices.ensures.valid c.loop-i.i
    (subst (λ n. c.loop-i.i < n) c.major_dim-in-loop-i.ensures c.loop-i-test.true))

pub push_lane-requires-clause-shared : goal.push_lane-requires-clause-shared
push_lane-requires-clause-shared c = rw (c.lane-in-loop-i.ensures, ← c.requires.inner)
    (lane_below c.args.a.now c.minor_indices.ensures.valid c.loop-i.i
    (subst (λ n. c.loop-i.i < n) c.major_dim-in-loop-i.ensures c.loop-i-test.true))
