use Rattle.std.proofs.Common.{◌≡◌, ◌≤◌, length, slice_index, vec_capacity}
use Rattle.sparse_convert.specs.InnerTripletLanes.{entries_of_lane}
use Rattle.sparse_convert.specs.InnerMerged.{AreLanesMerged}
use Rattle.sparse_convert.proofs.merge.merge_lanes.Given as goal

abbrev pub invariant-loop-lane : goal.invariant-loop-lane
invariant-loop-lane g l = record {
  merged : AreLanesMerged g.T.Ring.ring g.T.Ring.value g.T.Zero.zero_value
      (entries_of_lane l.offsets l.entries) l.lane l.starts.items l.indices.items l.values.items;
  room : length l.indices.items ≤ slice_index l.offsets l.lane;
  start_capacity : vec_capacity l.starts ≡ length l.offsets;
  index_capacity : vec_capacity l.indices ≡ length l.entries;
  value_capacity : vec_capacity l.values ≡ length l.entries;
}
