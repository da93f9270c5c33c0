use Rattle.std.proofs.Common.{◌≡◌, ℕ, ◌+◌, ◌*◌, ◌++◌, [], ◌∷◌, length, get_or, ap, ◌∙◌, arith}
use Rattle.sparse_compressed.specs.Compressed.{compressed_of, lane_triplets}
use Rattle.sparse_convert.proofs.DenseLanes.{kept_indices}
use Rattle.sparse_convert.proofs.AppendedLanes.{kept_more}
use Rattle.sparse_convert.proofs.serial.from_dense.compress_lanes.Goals as goal

pub loop-lane-preserved : goal.loop-lane-preserved
loop-lane-preserved g c =
    let E = g.T.PartialEq.eq in
    let z = g.T.Zero.zero_value in
    let m = c.args.minor_dim in
    let value : ℕ → ℕ → g.row.T.Denot =
    λ i k. get_or c.args.values.now (i * c.args.lane_step + k * c.args.step) z in
    let js = kept_indices E z m value c.loop-lane.lane in
    let pushed = c.in_ok-push_lane.ensures in
    let end : c.len.result ≡ length (c.loop-lane.indices.items ++ js) =
    omega (arith, ap length pushed.indices) in
    let offsets_is = c.in_ok-push-2.ensures.items
    ∙ ap (λ x. c.loop-lane.offsets.items ++ x ∷ []) end in
    rw (offsets_is, pushed.indices, pushed.kept) (kept_more E z m value c.loop-lane.invariant)

pub from_offset_and_indices_unchecked-pattern-requires :
    goal.from_offset_and_indices_unchecked-pattern-requires
from_offset_and_indices_unchecked-pattern-requires g c =
    let end : c.args.major_dim ≡ c.loop-lane.lane = omega arith in
    rw end c.loop-lane.invariant.sound.valid

pub returns-clause-kept : goal.returns-clause-kept
returns-clause-kept g c =
    let end : c.loop-lane.lane ≡ c.args.major_dim = omega arith in
    ap lane_triplets (c.from_pattern_and_values.ensures.is
    ∙ ap (λ d. compressed_of d c.loop-lane.kept.items)
    c.from_offset_and_indices_unchecked-pattern.ensures)
    ∙ (rw end at c.loop-lane.invariant).triplets
