use Rattle.std.proofs.Common.{◌<◌, ap, ◌∙◌, arith}
use Rattle.sparse_pattern.specs.Raw.{Raw}
use Rattle.sparse_pattern.proofs.PatternLanes.{length-lane}
use Rattle.sparse_compressed.proofs.LaneSearch.{rising_lane}
use Rattle.sparse_sums.proofs.InOrder.{added_more, lane_covered}
use Rattle.sparse_sums.proofs.in_order.add_in_order.Goals as goal

pub add_lane-requires : goal.add_lane-requires
add_lane-requires g c =
    let d = c.args.target.now in
    let i = c.loop-i.i in
    let lanes = c.major_dim-i-end.ensures ∙ ap (λ (d : Raw). d.major_dim) c.pattern.ensures.pattern
    in
    let lt : i < c.args.a.now.pattern.major_dim = omega (arith, c.loop-i-test.true, lanes) in
    let valid = c.major_offsets.ensures.valid.lanes i (omega (arith, lt, c.requires.lanes)) in
    let covered = (lane_covered d c.args.a.now.pattern c.major_offsets.ensures.valid
    c.pattern.ensures.sound.valid c.requires.lanes i lt).1
    (λ j place. c.requires.covered i j place) in
    record {
      inside = rw (c.lane.ensures, c.major_offsets.ensures.offsets, length-lane d i valid)
          (omega (
            arith,
            valid.ordered,
            valid.inside,
            c.requires.count,
            c.loop-i.auto.values,
          ));
      count = rw (c.values.ensures.values, c.minor_indices.ensures.indices)
          c.values.ensures.sound.count;
      target_rising = rw c.lane.ensures (rising_lane d i valid);
      rising = rw c.minor_indices.ensures.indices c.minor_indices.ensures.sound.rising;
      covered = rw (c.lane.ensures, c.minor_indices.ensures.indices, c.lane-lane.ensures) covered;
    }

pub loop-i-preserved : goal.loop-i-preserved
loop-i-preserved g c =
    let lanes = c.major_dim-i-end.ensures ∙ ap (λ (d : Raw). d.major_dim) c.pattern.ensures.pattern
    in
    let lt : c.loop-i.i < c.args.target.now.major_dim =
    omega (arith, c.loop-i-test.true, lanes, c.requires.lanes) in
    let added = rw (
      c.lane.ensures,
      c.major_offsets.ensures.offsets,
      c.minor_indices.ensures.indices,
      c.values.ensures.values,
      c.lane-lane.ensures,
    ) at c.add_lane.ensures.added in
    let kept = rw (c.lane.ensures, c.major_offsets.ensures.offsets) at c.add_lane.ensures.kept in
    added_more c.args.a.now c.loop-i.invariant c.major_offsets.ensures.valid
    c.pattern.ensures.sound c.requires.lanes lt c.add_lane.new.values added kept
