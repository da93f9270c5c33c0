use Rattle.std.proofs.Common.{◌≡◌, ◌++◌, ◌∷◌, [], length, ap, ◌∙◌, arith}
use Rattle.std.proofs.lemmas.Result.{IfOk-from_err}
use Rattle.sparse_pattern.specs.Raw.{Raw}
use Rattle.sparse_compressed.proofs.KeptLanes.{none_kept, kept_step}
use Rattle.sparse_compressed.proofs.filter.keep_lanes.Goals as goal

pub returns-in_err-offsets : goal.returns-in_err-offsets
returns-in_err-offsets g c = IfOk-from_err _ _ c.from_residual.ensures.0

pub returns-in_err-keep_lane : goal.returns-in_err-keep_lane
returns-in_err-keep_lane g c = IfOk-from_err _ _ c.from_residual-in_err-keep_lane.ensures.0

pub push_reserved-requires : goal.push_reserved-requires
push_reserved-requires g c = omega (
  arith,
  c.in_ok-offsets.ensures.len,
  c.in_ok-offsets.ensures.exact,
  ap length c.major_offsets.ensures.offsets,
  c.major_offsets.ensures.valid.count,
)

pub lane-places-requires : goal.lane-places-requires
lane-places-requires g c = omega (
  arith,
  c.loop-lane-test.true,
  c.major_dim-lane-end.ensures,
  ap (λ (d : Raw). d.major_dim) c.pattern-2.ensures.pattern,
)

pub push_reserved-requires-in-loop-lane : goal.push_reserved-requires-in-loop-lane
push_reserved-requires-in-loop-lane g c = omega (
  arith,
  c.loop-lane.offsets.ok.0,
  c.loop-lane.invariant.kept.offset_count,
  c.loop-lane.invariant.room,
  c.loop-lane-test.true,
  c.major_dim-lane-end.ensures,
  ap (λ (d : Raw). d.major_dim) c.pattern-2.ensures.pattern,
)

pub loop-lane-init : goal.loop-lane-init
loop-lane-init g c =
    let offsets_is : c.push_reserved.new.self.items ≡ 0 ∷ [] = c.push_reserved.ensures.items
    ∙ ap (λ l. l ++ 0 ∷ []) c.in_ok-offsets.ensures.items in
    record {
      room = omega (
        arith,
        c.push_reserved.ensures.capacity,
        c.in_ok-offsets.ensures.exact,
        ap length c.major_offsets.ensures.offsets,
        c.major_offsets.ensures.valid.count,
        ap (λ (d : Raw). d.major_dim) c.pattern.ensures.pattern,
      );
      kept = rw (offsets_is, c.new-indices.ensures.items, c.new-values.ensures.items)
          (none_kept _ _);
    }

pub keep_lane-requires-clause-count : goal.keep_lane-requires-clause-count
keep_lane-requires-clause-count g c =
    rw (c.values.ensures.values, c.minor_indices.ensures.indices) c.values.ensures.sound.count

pub keep_lane-requires-clause-callable : goal.keep_lane-requires-clause-callable
keep_lane-requires-clause-callable g c = c.requires

pub loop-lane-preserved : goal.loop-lane-preserved
loop-lane-preserved g c =
    let indices = rw c.lane-places.ensures at c.minor_indices.ensures.indices in
    let values = rw c.lane-places.ensures at c.values.ensures.values in
    let end : c.len.result ≡ length c.keep_lane.new.kept_indices.items = c.len.ensures
    ∙ c.keep_lane.new.kept_indices.ok.0 in
    record {
      room = omega arith;
      kept = rw c.push_reserved-in-loop-lane.ensures.items
          (kept_step _ _ c.loop-lane.invariant.kept indices values
          c.in_ok-keep_lane.ensures end);
    }

pub returns : goal.returns
returns g c =
    let all : c.loop-lane.lane ≡ c.args.matrix.now.pattern.major_dim = omega (
      arith,
      c.loop-lane-test.false,
      c.loop-lane.auto.lane-end,
      c.major_dim-lane-end.ensures,
      ap (λ (d : Raw). d.major_dim) c.pattern-2.ensures.pattern,
    ) in
    rw all at c.loop-lane.invariant.kept
