use Rattle.std.proofs.Common.{◌≡◌, ◌+◌, ◌<◌, ◌≤◌, []}
use Rattle.std.proofs.Common.{◌∷◌, length, length-append, length-set, set}
use Rattle.std.proofs.Common.{slice_get, slice_index, slice_index_or, ap, arith, sym, ◌∙◌, subst}
use Rattle.std.specs.Prelude.{Some}
use Rattle.std.proofs.lemmas.Option.{slice_get-get_or}
use Rattle.sparse_pattern.specs.Raw.{end_of, start_of, IsInLane}
use Rattle.sparse_pattern.specs.InnerTransposes.{AreMirrored, ArePastStarts}
use Rattle.sparse_pattern.proofs.MirroredEntries.{past_starts-set, mirrored-push}
use Rattle.sparse_pattern.proofs.pattern.transpose.mirroring.push_mirrored.Goals as goal

pub loop-offset-preserved : goal.loop-offset-preserved
loop-offset-preserved g c =
    let d = c.args.pattern.now in
    let p = c.loop-offset.offset in
    let valid = c.minor_indices-indices.ensures.valid in
    let lane = c.lane_bounds-start.ensures.lane in
    let from = rw c.lane_bounds-start.ensures.start at c.loop-offset.auto.offset in
    let to = rw c.lane_bounds-start.ensures.end at c.loop-offset-test.true in
    let here : IsInLane d c.args.lane p = record { lane = c.requires.lane; from = from; to = to } in
    let inv = c.loop-offset.invariant in
    let index = slice_index d.indices p in
    let k = slice_index c.loop-offset.cursors index in
    let below : index < d.major_dim = omega (arith, lane.bounded p from to, c.requires.square) in
    let past : start_of d index ≤ k = inv.cursors index below in
    let before : k < end_of d index =
    rw (c.minor_indices-indices.ensures.indices, c.major_offsets-offsets.ensures.offsets) at
    c.if-mirrored-offsets.false in
    let there : IsInLane d index k = record { lane = below; from = past; to = before } in
    let is : slice_index d.indices k ≡ c.args.lane =
    rw c.minor_indices-indices.ensures.indices at c.if-indices-mirrored.false in
    let v = c.index-values-mirrored.result in
    let read : v ≡ slice_index_or c.args.values.now k v =
    rw c.minor_indices-indices.ensures.indices at c.index-values-mirrored.is in
    let value : slice_get c.args.values.now k ≡ Some v =
    slice_get-get_or c.args.values.now k v
    (omega (arith, before, (valid.lanes index below).inside, c.requires.size)) ∙ ap Some (sym read)
    in
    let pushed = c.push_reserved.ensures.items in
    let cursors : ArePastStarts d (set c.loop-offset.cursors index (k + 1)) =
    past_starts-set d valid c.loop-offset.cursors index (k + 1) inv.cursors (omega (arith, past))
    (omega (arith, below, inv.cursor_count)) in
    record {
      count = ap length pushed ∙ length-append c.loop-offset.moved.items (v ∷ [])
          ∙ ap (λ n. n + 1) inv.count;
      room = c.push_reserved.ensures.capacity ∙ inv.room;
      cursor_count = length-set c.loop-offset.cursors _ _ ∙ inv.cursor_count;
      cursors = rw c.minor_indices-indices.ensures.indices cursors;
      mirrored = subst (AreMirrored d c.args.values.now) (sym pushed)
          (mirrored-push d valid c.args.values.now c.loop-offset.moved.items c.args.lane p k v
          inv.mirrored here inv.count there is value);
    }
