use Rattle.std.proofs.Common.{◌≡◌, ◌+◌, ◌≤◌, length, take, vec_len, vec_capacity}
use Rattle.sparse_convert.specs.InnerMerged.{AreMerged, KeepsFirst}
use Rattle.sparse_convert.proofs.merge.merge_lane.Given as goal

abbrev pub invariant-loop-index : goal.invariant-loop-index
invariant-loop-index g l = record {
  merged : AreMerged g.T.Ring.ring g.T.Ring.value g.T.Zero.zero_value (take l.index-index l.lane)
      l.indices.items l.values.items l.start (length l.indices.items);
  from : l.start ≤ vec_len l.indices;
  to : vec_len l.indices ≤ l.start + l.index-index;
  sizes : vec_len l.values ≡ vec_len l.indices;
  keeps_indices : KeepsFirst 0 l.start l.initial.indices.items l.indices.items;
  keeps_values : KeepsFirst g.T.Zero.zero_value l.start l.initial.values.items l.values.items;
  index_capacity : vec_capacity l.indices ≡ vec_capacity l.initial.indices;
  value_capacity : vec_capacity l.values ≡ vec_capacity l.initial.values;
}
