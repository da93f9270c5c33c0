use Rattle.std.proofs.Common.{◌≡◌, ◌+◌, ◌-◌, ◌<◌, ◌≤◌, length, take, vec_len, vec_capacity}
use Rattle.sparse_convert.specs.InnerTripletLists.{list_of}
use Rattle.sparse_convert.specs.InnerInOrder.{AreInOrder}
use Rattle.sparse_convert.proofs.in_order.compress_in_order.Given as goal

abbrev pub invariant-loop-offset : goal.invariant-loop-offset
invariant-loop-offset g l = record {
  held : AreInOrder g.T.Ring.ring g.T.Ring.value g.T.Zero.zero_value (vec_len l.offsets - 1)
      (take l.offset (list_of l.triplets)) l.offsets.items l.indices.items
      l.sums.items;
  within : vec_len l.offsets ≤ l.triplets.major_dim + 1;
  most : vec_len l.indices ≤ l.offset;
  lane_room : l.triplets.major_dim < vec_capacity l.offsets;
  index_room : vec_capacity l.indices ≡ length l.majors;
  value_room : vec_capacity l.sums ≡ length l.majors;
}
