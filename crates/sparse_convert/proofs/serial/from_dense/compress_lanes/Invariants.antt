use Rattle.std.proofs.Common.{◌+◌, ◌*◌, get_or}
use Rattle.sparse_convert.proofs.AppendedLanes.{HoldNonzeros}
use Rattle.sparse_convert.proofs.serial.from_dense.compress_lanes.Given as goal

abbrev pub invariant-loop-lane : goal.invariant-loop-lane
invariant-loop-lane g l =
    let z = g.T.Zero.zero_value in
    HoldNonzeros g.T.PartialEq.eq z l.minor_dim
    (λ i k. get_or l.values (i * l.lane_step + k * l.step) z) l.lane l.offsets.items l.indices.items
    l.kept.items
