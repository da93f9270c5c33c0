use Rattle.std.proofs.Common.{◌≡◌, inl, inr, get_or, sym, ◌∙◌, subst, arith}
use Rattle.std.specs.List.{Contains}
use Rattle.std.proofs.lemmas.List.{get_or_default}
use Rattle.sparse_algebra.proofs.Cases.{lt_add_one_cases}
use Rattle.sparse_pattern.specs.Raw.{IsEntry}
use Rattle.sparse_pattern.proofs.LaneLists.{lane_has}
use Rattle.sparse_factor.specs.Fill.{TriangleBase}
use Rattle.reference_models.specs.Pairs.{pair}
use Rattle.reference_models.specs.InnerClosure.{IsOfTriangle, base_pair, HasFillOf}
use Rattle.reference_models.proofs.TriangleBases.{base_from_entry, given_from_base}
use Rattle.reference_models.proofs.fill.lacking.Goals as goal

pub returns-in-Some-clause-cases : goal.returns-in-Some-clause-cases
returns-in-Some-clause-cases c =
    let t = c.args.triangle in
    let p = c.args.pattern.now in
    let column = c.loop-column.column in
    let h = c.in-Some.ensures in
    let (row, has, of_triangle, is) = h.0 in
    let lane = subst (λ xs. Contains xs row) c.lane.ensures has in
    let place : IsEntry p column row =
    (lane_has p c.major_offsets.ensures.valid column row (omega arith)).0 lane in
    record {
      new = h.1;
      from = inl (subst (λ x. TriangleBase t p x.0 x.1) (sym is)
          (base_from_entry t p row column place of_triangle));
    }

pub loop-column-preserved : goal.loop-column-preserved
loop-column-preserved c = λ row k lt place of_triangle.
    elim (lt_add_one_cases k c.loop-column.column lt) [
      | inl before ↦ c.loop-column.invariant row k before place of_triangle
      | inr e ↦
          let t = c.args.triangle in
          let p = c.args.pattern.now in
          let column = c.loop-column.column in
          let here : IsEntry p column row = subst (λ k. IsEntry p k row) e place in
          let lane = (lane_has p c.major_offsets.ensures.valid column row (omega arith)).1 here in
          let has = c.in-None.ensures row (subst (λ xs. Contains xs row) (sym c.lane.ensures) lane)
          (subst (IsOfTriangle t row) e of_triangle) in
          subst (λ k. Contains c.args.set.now (base_pair row k)) (sym e) has
    ]

pub returns-in-Some-lacking_fill-clause-cases : goal.returns-in-Some-lacking_fill-clause-cases
returns-in-Some-lacking_fill-clause-cases c =
    let set = c.args.set.now in
    let y = get_or set c.loop-i.i-index (pair 0 0) in
    let x = c.in-Some-lacking_fill.pair in
    let h = c.in-Some-lacking_fill.ensures in
    let has : Contains set y = (
      c.loop-i.i-index,
      c.loop-i-test.true,
      get_or_default set c.loop-i.i-index y (pair 0 0) c.loop-i-test.true,
    ) in
    record {
      new = h.4;
      from = inr (
        y.1,
        subst (λ i. Contains set (pair i y.1)) (sym h.0) has,
        h.1,
        h.2,
        omega (arith, h.0, h.3),
      );
    }

pub loop-i-preserved : goal.loop-i-preserved
loop-i-preserved c = λ q lt. elim (lt_add_one_cases q c.loop-i.i-index lt) [
  | inl before ↦ c.loop-i.invariant q before
  | inr e ↦ subst (λ k. HasFillOf (get_or c.args.set.now k (pair 0 0)).0
      (get_or c.args.set.now k (pair 0 0)).1 c.args.set.now) (sym e) c.in-None-lacking_fill.ensures
]

pub returns-clause-cases : goal.returns-clause-cases
returns-clause-cases c = record {
  base = λ i j b.
      let g = given_from_base c.args.triangle c.args.pattern.now i j b in
      subst (Contains c.args.set.now) g.is (c.loop-column.invariant g.row g.column
      (omega (arith, g.place.in_lane.lane)) g.place g.of_triangle);
  closed = λ i j k left right lt le.
      let at : get_or c.args.set.now left.0 (pair 0 0) ≡ pair i k =
      get_or_default c.args.set.now left.0 (pair 0 0) (pair i k) left.1 ∙ left.2 in
      let has = subst (λ x. HasFillOf x.0 x.1 c.args.set.now) at
      (c.loop-i.invariant left.0 (omega (arith, left.1))) in
      has j right lt le;
}
