use Rattle.std.proofs.Common.{ℕ, get_or, refl, subst, sym, ◌∙◌, Contains}
use Rattle.std.proofs.lemmas.List.{take_all}
use Rattle.std.proofs.lemmas.List.Elements.{Contains-get_or}
use Rattle.sparse_pattern.specs.Raw.{IsEntry}
use Rattle.sparse_pattern.proofs.LaneLists.{lane_has}
use Rattle.sparse_sums.proofs.TargetLookups.{missed, found_entry}
use Rattle.sparse_products.proofs.CoveredLanes.{element_more}
use Rattle.sparse_products.proofs.serial.search.covers_lane.Goals as goal

pub loop-j-preserved : goal.loop-j-preserved
loop-j-preserved c =
    let d = c.args.pattern.now in
    let js = c.lane-indices.result.now in
    element_more (IsEntry d c.args.i) js c.loop-j.j-index c.loop-j-test.true
    (found_entry d c.major_offsets.ensures.valid c.args.i (get_or js c.loop-j.j-index 0) _
    (sym c.offset_of.ensures.offset ∙ c.in-Some.is)) c.loop-j.invariant

pub returns-in-None : goal.returns-in-None
returns-in-None c =
    let d = c.args.pattern.now in
    let js = c.lane-indices.result.now in
    let j = get_or js c.loop-j.j-index 0 in
    let none = missed d c.major_offsets.ensures.valid c.args.i j
    (sym c.offset_of.ensures.offset ∙ c.in-None.is) in
    let there = subst (λ l. Contains l j) c.lane-indices.ensures
    (Contains-get_or js c.loop-j.j-index 0 c.loop-j-test.true) in (
      λ h. cc,
      λ h. absurd (none (h j ((lane_has c.args.b.now c.major_offsets-2.ensures.valid c.args.k j
          c.requires.shared).0 there))),
    )

pub returns : goal.returns
returns c =
    let whole = take_all c.loop-j.j-index c.lane-indices.result.now c.loop-j-test.false
    ∙ c.lane-indices.ensures in
    let all = subst (λ xs. (j : ℕ) → Contains xs j → IsEntry c.args.pattern.now c.args.i j) whole
    c.loop-j.invariant in (
      λ _ j here. all j ((lane_has c.args.b.now c.major_offsets-2.ensures.valid c.args.k j
          c.requires.shared).1 here),
      λ _. refl,
    )
