use Rattle.std.proofs.lemmas.Grind.{elements}
use Rattle.std.proofs.Common.{ℕ, inl, inr, refl, subst, sym, arith}
use Rattle.sparse_algebra.proofs.Cases.{lt_add_one_cases}
use Rattle.sparse_pattern.specs.Raw.{lane_of, IsEntry}
use Rattle.sparse_products.specs.InnerProducts.{IsInLanes}
use Rattle.sparse_products.proofs.CoveredLanes.{product_of_lanes, lanes_of_product}
use Rattle.sparse_products.proofs.serial.search.covers_product.Goals as goal

pub loop-i-preserved : goal.loop-i-preserved
loop-i-preserved c =
    let a = c.args.a.now in
    let b = c.args.b.now in
    let d = c.args.pattern.now in
    let here : (j : ℕ) → IsInLanes b (lane_of a c.loop-i.i) j → IsEntry d c.loop-i.i j =
    rw c.lane.ensures at (c.covers_lanes.ensures.0 c.if-not-covers_lanes.false) in
    λ i lt. elim (lt_add_one_cases i c.loop-i.i lt) [
      | inl before ↦ c.loop-i.invariant i before
      | inr last ↦ subst (λ i. (j : ℕ) → IsInLanes b (lane_of a i) j → IsEntry d i j) (sym last)
          here
    ]

pub returns-then-not-covers_lanes : goal.returns-then-not-covers_lanes
returns-then-not-covers_lanes c =
    let a = c.args.a.now in
    let no = c.if-not-covers_lanes.true in (
      λ h. cc,
      λ h. let yes = c.covers_lanes.ensures.1
          (rw c.lane.ensures (lanes_of_product c.args.pattern.now a c.args.b.now
          c.major_offsets-2.ensures.valid h c.loop-i.i (omega arith))) in cc,
    )

pub returns : goal.returns
returns c = (
  λ _. product_of_lanes c.args.pattern.now c.args.a.now c.args.b.now
      c.major_offsets-2.ensures.valid (λ i lt. c.loop-i.invariant i (omega arith)),
  λ _. refl,
)

-- ---- written by tools/answer-goals

pub covers_lanes-requires-clause-shared : goal.covers_lanes-requires-clause-shared
covers_lanes-requires-clause-shared c = grind (arith, elements)
