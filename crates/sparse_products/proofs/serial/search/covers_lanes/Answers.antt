use Rattle.std.proofs.Common.{ℕ, get_or, refl, subst, Contains}
use Rattle.std.proofs.lemmas.List.{take_all}
use Rattle.std.proofs.lemmas.List.Elements.{Contains-get_or}
use Rattle.sparse_pattern.specs.Raw.{IsEntry}
use Rattle.sparse_products.proofs.CoveredLanes.{element_more}
use Rattle.sparse_products.proofs.serial.search.covers_lanes.Goals as goal

pub loop-k-preserved : goal.loop-k-preserved
loop-k-preserved c = element_more
    (λ k. (j : ℕ) → IsEntry c.args.b.now k j → IsEntry c.args.pattern.now c.args.i j)
    c.args.lanes.now c.loop-k.k-index c.loop-k-test.true
    (c.covers_lane.ensures.0 c.if-not-covers_lane.false) c.loop-k.invariant

pub returns-then-not-covers_lane : goal.returns-then-not-covers_lane
returns-then-not-covers_lane c =
    let there = Contains-get_or c.args.lanes.now c.loop-k.k-index 0 c.loop-k-test.true in
    let no = c.if-not-covers_lane.true in (
      λ h. cc,
      λ h. let yes = c.covers_lane.ensures.1 (λ j here. h j
          (get_or c.args.lanes.now c.loop-k.k-index 0, there, here)) in cc,
    )

pub returns : goal.returns
returns c =
    let all = subst (λ xs. (k : ℕ) → Contains xs k → (j : ℕ) → IsEntry c.args.b.now k j
    → IsEntry c.args.pattern.now c.args.i j)
    (take_all c.loop-k.k-index c.args.lanes.now c.loop-k-test.false) c.loop-k.invariant in
    (λ _ j h. all h.0 h.1 j h.2, λ _. refl)
