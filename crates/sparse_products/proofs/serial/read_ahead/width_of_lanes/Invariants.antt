use Rattle.std.proofs.Common.{◌≡◌, [], All, take}
use Rattle.sparse_pattern.specs.Raw.{lane_of}
use Rattle.sparse_products.proofs.serial.read_ahead.width_of_lanes.Given as goal

abbrev pub invariant-loop-k : goal.invariant-loop-k
invariant-loop-k l = l.width ≡ 0 → All (λ k. lane_of l.b k ≡ []) (take l.k-index l.lane)
