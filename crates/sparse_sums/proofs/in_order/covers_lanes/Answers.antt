use Rattle.std.proofs.Common.{inl, inr, sym, subst, arith}
use Rattle.sparse_algebra.proofs.Cases.{lt_add_one_cases}
use Rattle.sparse_pattern.specs.Raw.{IsEntry}
use Rattle.sparse_compressed.proofs.LaneSearch.{rising_lane}
use Rattle.sparse_sums.proofs.InOrder.{lane_covered}
use Rattle.sparse_sums.proofs.in_order.covers_lanes.Goals as goal

pub covers_lane-requires-clause-target_rising : goal.covers_lane-requires-clause-target_rising
covers_lane-requires-clause-target_rising c =
    rw c.lane.ensures (rising_lane c.args.target.now c.loop-i.i
    (c.major_offsets.ensures.valid.lanes c.loop-i.i (omega arith)))

pub covers_lane-requires-clause-rising : goal.covers_lane-requires-clause-rising
covers_lane-requires-clause-rising c = rw c.lane-in-loop-i.ensures
    (rising_lane c.args.a.now c.loop-i.i (c.major_offsets-2.ensures.valid.lanes c.loop-i.i
    (omega arith)))

pub loop-i-preserved : goal.loop-i-preserved
loop-i-preserved c = λ n lt.
    let d = c.args.target.now in
    let a = c.args.a.now in
    let i = c.loop-i.i in
    let here = (lane_covered d a c.major_offsets.ensures.valid c.major_offsets-2.ensures.valid
    c.requires i (omega arith)).0 in
    let covered = rw (c.lane.ensures, c.lane-in-loop-i.ensures) at c.covers_lane.ensures in
    elim (lt_add_one_cases n i lt) [
      | inl before ↦ c.loop-i.invariant n before
      | inr last ↦ λ j place. subst (λ k. IsEntry d k j) (sym last)
          (here (covered.0 c.if-not-covers_lane.false) j (subst (λ k. IsEntry a k j) last place))
    ]

pub returns-then-not-covers_lane : goal.returns-then-not-covers_lane
returns-then-not-covers_lane c =
    let here = (lane_covered c.args.target.now c.args.a.now c.major_offsets.ensures.valid
    c.major_offsets-2.ensures.valid c.requires c.loop-i.i (omega arith)).1 in
    let covered = rw (c.lane.ensures, c.lane-in-loop-i.ensures) at c.covers_lane.ensures in
    (λ h. cc, λ h. let ok = covered.1 (here (λ j place. h c.loop-i.i j place)) in cc)
