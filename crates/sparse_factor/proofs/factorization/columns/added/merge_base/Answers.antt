use Rattle.std.proofs.Common.{Contains, subst, sym}
use Rattle.sparse_pattern.proofs.LaneLists.{lane_has}
use Rattle.sparse_factor.proofs.factorization.columns.added.merge_base.Goals as goal

pub returns-clause-rows : goal.returns-clause-rows
returns-clause-rows g c = λ r.
    let rows = c.merge_lane.ensures.rows r in
    let has = lane_has c.args.base.now c.major_offsets.ensures.valid c.args.column r
    c.requires.column in (
      λ h.
          let (in_lane, low) = rows.0 h in
          (has.0 (subst (λ l. Contains l r) c.lane-lane.ensures in_lane), low),
      λ b. rows.1 (subst (λ l. Contains l r) (sym c.lane-lane.ensures) (has.1 b.0), b.1),
    )
