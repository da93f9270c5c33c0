use Rattle.std.proofs.Common.{◌≡◌, ◌++◌, ◌∷◌, [], ◌∙◌, ap, refl, arith}
use Rattle.sparse_compressed.proofs.LaneSearch.{rising_lane}
use Rattle.sparse_sums.proofs.UnionLanes.{gained_lane, union_more, union_all}
use Rattle.sparse_sums.proofs.pattern.spadd_pattern.Goals as goal

pub append_sum-requires-clause-a_rising : goal.append_sum-requires-clause-a_rising
append_sum-requires-clause-a_rising c =
    rw c.lane-first.ensures (rising_lane c.args.a.now c.loop-i.i
    (c.minor_indices.ensures.valid.lanes c.loop-i.i (omega arith)))

pub append_sum-requires-clause-b_rising : goal.append_sum-requires-clause-b_rising
append_sum-requires-clause-b_rising c =
    rw c.lane-second.ensures (rising_lane c.args.b.now c.loop-i.i
    (c.minor_indices-2.ensures.valid.lanes c.loop-i.i (omega arith)))

pub loop-i-preserved : goal.loop-i-preserved
loop-i-preserved c =
    let a = c.args.a.now in
    let b = c.args.b.now in
    let va = c.minor_indices.ensures.valid in
    let vb = c.minor_indices-2.ensures.valid in
    let gained = rw (c.lane-first.ensures, c.lane-second.ensures) at
    c.in_ok-append_sum.ensures.gained in
    let was = c.loop-i in
    let now = c.append_sum.new in
    record {
      built = union_more a b va vb c.requires.lanes c.requires.width _ (omega arith)
          was.invariant.built (gained_lane gained)
          (c.in_ok-push-2.ensures.items ∙ ap (λ n. was.offsets.items ++ n ∷ [])
          (c.len.ensures ∙ now.indices.ok.0));
    }

pub returns-clause-entries : goal.returns-clause-entries
returns-clause-entries c =
    let whole : c.loop-i.i ≡ c.args.a.now.major_dim = omega arith in
    rw (c.from_offset_and_indices_unchecked.ensures, c.major_dim.ensures, c.minor_dim.ensures)
    (union_all c.args.a.now c.args.b.now c.minor_indices.ensures.valid
    c.minor_indices-2.ensures.valid c.requires.lanes c.requires.width _ whole refl
    c.loop-i.invariant.built)
