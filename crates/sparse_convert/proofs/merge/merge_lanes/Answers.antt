use Rattle.std.proofs.Common.{◌≡◌, [], ◌∷◌, ◌++◌, ◌+◌, ◌-◌, length, ap, ◌∙◌, slice_index, arith}
use Rattle.std.proofs.lemmas.List.Edits.{length-between}
use Rattle.sparse_compressed.specs.Compressed.{compressed_of}
use Rattle.sparse_convert.proofs.Offsets.{no_lane, offsets_within}
use Rattle.sparse_convert.proofs.MergedLanes.{no_lanes_merged, lanes_merged_more}
use Rattle.sparse_convert.proofs.MergedLanes.{merged_valid, merged_represents}
use Rattle.sparse_convert.proofs.merge.merge_lanes.Goals as goal

pub loop-lane-init : goal.loop-lane-init
loop-lane-init g c =
    let starts_is : c.push_reserved.new.self.items ≡ 0 ∷ [] = c.push_reserved.ensures.items
    ∙ ap (λ l. l ++ 0 ∷ []) c.in_ok-starts.ensures.items in
    record {
      merged = rw (starts_is, c.in_ok-indices.ensures.items, c.in_ok-values.ensures.items)
          no_lanes_merged;
      room = omega (arith, ap length c.in_ok-indices.ensures.items);
      start_capacity = c.push_reserved.ensures.capacity ∙ c.in_ok-starts.ensures.exact;
      index_capacity = c.in_ok-indices.ensures.exact;
      value_capacity = c.in_ok-values.ensures.exact;
    }

pub offset_bounds-entries-start : goal.offset_bounds-entries-start
offset_bounds-entries-start g c =
    offsets_within c.requires.offsets c.loop-lane.lane (omega arith)

pub slice_bounds-merge_lane-end : goal.slice_bounds-merge_lane-end
slice_bounds-merge_lane-end g c =
    offsets_within c.requires.offsets (c.loop-lane.lane + 1) (omega arith)

pub merge_lane-requires : goal.merge_lane-requires
merge_lane-requires g c =
    let offsets = c.args.offsets.now in
    let n = c.loop-lane.lane in
    let within = offsets_within c.requires.offsets (n + 1) (omega arith) in
    let ordered = c.requires.offsets.ordered n (omega arith) in
    let long = length-between c.args.entries.now (slice_index offsets n)
    (slice_index offsets (n + 1)) within in
    record {
      sorted = c.requires.sorted n;
      sizes = omega (arith, c.loop-lane.invariant.merged.sizes);
      index_room = omega (arith, within, ordered, long);
      value_room = omega (arith, within, ordered, long, c.loop-lane.invariant.merged.sizes);
    }

pub loop-lane-preserved : goal.loop-lane-preserved
loop-lane-preserved g c =
    let offsets = c.args.offsets.now in
    let n = c.loop-lane.lane in
    let inv = c.loop-lane.invariant in
    let built = c.merge_lane.ensures in
    let starts = c.loop-lane.starts.items in
    let js = c.merge_lane.new.indices.items in
    let end : c.len.result ≡ length js = omega (arith, c.len.ensures) in
    let starts_is : c.push_reserved-in-loop-lane.new.self.items ≡ starts ++ length js ∷ [] =
    c.push_reserved-in-loop-lane.ensures.items ∙ ap (λ x. starts ++ x ∷ []) end in
    let within = offsets_within c.requires.offsets (n + 1) (omega arith) in
    let ordered = c.requires.offsets.ordered n (omega arith) in
    let long = length-between c.args.entries.now (slice_index offsets n)
    (slice_index offsets (n + 1)) within in
    record {
      merged = rw starts_is (lanes_merged_more inv.merged (omega (arith, built.grown.0))
          (omega (arith, built.sizes)) (λ p lt. built.kept_indices p (omega arith))
          (λ p lt. built.kept_values p (omega (arith, inv.merged.sizes))) built.merged);
      room = omega (arith, built.grown.1, inv.room, long, within, ordered);
      start_capacity = c.push_reserved-in-loop-lane.ensures.capacity ∙ inv.start_capacity;
      index_capacity = built.capacities.0 ∙ inv.index_capacity;
      value_capacity = built.capacities.1 ∙ inv.value_capacity;
    }

pub from_offset_and_indices_unchecked-pattern-requires :
    goal.from_offset_and_indices_unchecked-pattern-requires
from_offset_and_indices_unchecked-pattern-requires g c =
    let end : c.loop-lane.lane ≡ length c.args.offsets.now - 1 = omega arith in
    merged_valid c.requires.below (λ i past. no_lane c.args.offsets.now
    c.args.entries.now i (omega (arith, c.requires.offsets.count)))
    (rw end at c.loop-lane.invariant.merged)

pub returns : goal.returns
returns g c =
    let end : c.loop-lane.lane ≡ length c.args.offsets.now - 1 = omega arith in
    let built = c.from_pattern_and_values.ensures in
    merged_represents c.requires.below (λ i past. no_lane c.args.offsets.now
    c.args.entries.now i (omega (arith, c.requires.offsets.count)))
    (rw end at c.loop-lane.invariant.merged) built.sound
    (built.is ∙ ap (λ d. compressed_of d c.loop-lane.values.items)
    c.from_offset_and_indices_unchecked-pattern.ensures)
