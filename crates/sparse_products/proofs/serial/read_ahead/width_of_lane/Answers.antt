use Rattle.std.proofs.Common.{◌<◌, ◌-◌, arith}
use Rattle.sparse_pattern.specs.Raw.{start_of, end_of}
use Rattle.sparse_pattern.proofs.OffsetsInLanes.{indices_below}
use Rattle.sparse_products.proofs.serial.read_ahead.width_of_lane.Goals as goal

pub overflow_add-result : goal.overflow_add-result
overflow_add-result c =
    let b = c.args.b.now in
    let k = c.args.k in
    let valid = c.major_offsets-offsets.ensures.valid in
    let lane = valid.lanes k c.requires in
    let offsets = c.major_offsets-offsets.ensures.offsets in
    let some = rw offsets at c.if-begin-end.false in
    let less : start_of b k < end_of b k = grind (arith, lane.ordered, some) in
    let first = indices_below b valid (start_of b k) 0 (omega (arith, less, lane.inside)) in
    let last = indices_below b valid (end_of b k - 1) 0 (omega (arith, less, lane.inside)) in
    let max = rw (offsets, c.minor_indices-indices.ensures.indices) at c.max.ensures in
    omega (arith, max, first, last, c.minor_dim.ensures, c.minor_dim.type_inv)
