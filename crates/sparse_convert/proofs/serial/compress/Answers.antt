use Rattle.std.proofs.Common.{◌≡◌, ◌<◌, ◌-◌, length, ◌∙◌, arith}
use Rattle.std.proofs.lemmas.List.Sorted.{All-permutation}
use Rattle.std.proofs.lemmas.Result.{IfOk-weaker}
use Rattle.sparse_convert.specs.InnerTripletLanes.{entries_of_lane, triplets_of_lane}
use Rattle.sparse_convert.specs.InnerTripletLists.{list_of}
use Rattle.sparse_convert.proofs.Triplets.{lane_below, lanes_represent}
use Rattle.sparse_convert.proofs.serial.compress.Goals as goal

pub merge_lanes-requires : goal.merge_lanes-requires
merge_lanes-requires g c =
    let lanes = c.in_ok-lanes.ensures in
    let offsets = c.in_ok-lanes.lanes.offsets.items in
    let t = c.args.triplets.now in
    let n : length offsets - 1 ≡ t.major_dim = omega (arith, lanes.offsets_are.count) in
    rw (c.deref.ensures.value, c.deref-2.ensures.value) (record {
      offsets = rw n lanes.offsets_are;
      sorted = lanes.sorted;
      below = λ i. All-permutation (λ e. e.0 < t.minor_dim) (triplets_of_lane (list_of t) i)
          (entries_of_lane offsets c.in_ok-lanes.lanes.entries.items i) (lanes.moved i)
          (lane_below t i);
    })

pub returns : goal.returns
returns g c =
    let lanes = c.in_ok-lanes.ensures in
    let offsets = c.in_ok-lanes.lanes.offsets.items in
    let entries = c.in_ok-lanes.lanes.entries.items in
    let t = c.args.triplets.now in
    let rows : length offsets - 1 ≡ t.major_dim = omega (arith, lanes.offsets_are.count) in
    IfOk-weaker c.merge_lanes.result _ _
    (λ m s. record {
      plain = s.plain ∙ rw (c.deref.ensures.value, c.deref-2.ensures.value, rows)
          (lanes_represent g.T.Ring.ring g.T.Ring.value t.major_dim t.minor_dim offsets entries
          (list_of t) lanes.moved);
      sound = s.sound;
    }) c.merge_lanes.ensures
