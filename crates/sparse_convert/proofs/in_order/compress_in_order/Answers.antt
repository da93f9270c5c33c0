use Rattle.std.proofs.Common.{◌≡◌, ◌-◌, ◌<◌, ◌++◌, [], ◌∷◌, length, slice_index, take}
use Rattle.std.proofs.Common.{vec_len, ap, ◌∙◌, arith}
use Rattle.sparse_compressed.specs.Compressed.{compressed_of}
use Rattle.sparse_convert.specs.InnerTripletLists.{list_of}
use Rattle.sparse_convert.proofs.InOrder.{all_read, nothing_read}
use Rattle.sparse_convert.proofs.MergedLanes.{triplets_represented, triplets_valid}
use Rattle.sparse_convert.proofs.Triplets.{next_triplet}
use Rattle.sparse_convert.proofs.in_order.compress_in_order.Goals as goal

pub loop-offset-init : goal.loop-offset-init
loop-offset-init g c =
    let starts_is : c.push_reserved.new.self.items ≡ 0 ∷ [] = c.push_reserved.ensures.items
    ∙ ap (λ l. l ++ 0 ∷ []) c.in_ok-offsets.ensures.items in
    let lane : vec_len c.push_reserved.new.self - 1 ≡ 0 = omega (arith, ap length starts_is) in
    record {
      held = rw (
        lane,
        starts_is,
        c.in_ok-indices.ensures.items,
        c.in_ok-sums.ensures.items,
      ) (nothing_read {z = g.T.Zero.zero_value});
      within = omega (arith, ap length starts_is);
      most = omega (arith, c.in_ok-indices.ensures.len);
      lane_room = omega (
        arith,
        c.push_reserved.ensures.capacity,
        c.in_ok-offsets.ensures.exact,
        c.saturating_add.ensures,
      );
      index_room = c.in_ok-indices.ensures.exact;
      value_room = c.in_ok-sums.ensures.exact;
    }

pub loop-offset-preserved : goal.loop-offset-preserved
loop-offset-preserved g c =
    let p = c.loop-offset.offset in
    let inv = c.loop-offset.invariant in
    let next = c.if-not-push_triplet.ensures in
    let t = c.args.triplets.now in
    let major = slice_index t.majors.now p in
    let lt : p < length t.majors.now = c.loop-offset-test.true in
    let below : major < t.major_dim = t.lists.rows_bounded p 0 lt in
    let lane : vec_len c.push_triplet.new.offsets - 1 ≡ major = omega (arith, next.lanes) in
    record {
      held = rw (
        lane,
        next_triplet t p c.index-values-offset.result lt
            c.index-values-offset.is,
      ) (next.held (take p (list_of t)) inv.held);
      within = omega (arith, next.lanes, below);
      most = omega (arith, next.grown, inv.most);
      lane_room = omega (arith, next.lane_room, inv.lane_room);
      index_room = next.index_room ∙ inv.index_room;
      value_room = next.value_room ∙ inv.value_room;
    }

pub from_offset_and_indices_unchecked-pattern-requires :
    goal.from_offset_and_indices_unchecked-pattern-requires
from_offset_and_indices_unchecked-pattern-requires g c =
    let inv = c.loop-offset.invariant in
    let end : c.len.result ≡ length c.loop-offset.indices.items = omega arith in
    let merged = rw (← end, ← c.end_lanes.ensures.ended) at (all_read c.args.triplets.now
    c.loop-offset.offset (omega arith) (omega (arith, inv.within)) inv.held) in
    triplets_valid c.args.triplets.now merged

pub returns : goal.returns
returns g c =
    let inv = c.loop-offset.invariant in
    let end : c.len.result ≡ length c.loop-offset.indices.items = omega arith in
    let merged = rw (← end, ← c.end_lanes.ensures.ended) at (all_read c.args.triplets.now
    c.loop-offset.offset (omega arith) (omega (arith, inv.within)) inv.held) in
    let built = c.from_pattern_and_values.ensures in
    triplets_represented c.args.triplets.now merged built.sound
    (built.is ∙ ap (λ d. compressed_of d c.loop-offset.sums.items)
    c.from_offset_and_indices_unchecked-pattern.ensures)
