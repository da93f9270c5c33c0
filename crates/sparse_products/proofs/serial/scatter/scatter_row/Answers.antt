use borrow.Author.Rules.{scaled_fits≤}
use Rattle.std.proofs.Common.{◌≡◌, ◌+◌, ◌-◌, ◌<◌, ◌≤◌, ℕ, inl, inr, length, get_or, sym, ◌∙◌}
use Rattle.std.proofs.Common.{slice_range, ap, refl, arith}
use borrow.Rule.Slice.PartMut.{mid_len}
use Rattle.std.proofs.lemmas.List.Edits.{get_or-between}
use Rattle.sparse_algebra.proofs.RingLemmas.{zero_add, mul_zero}
use Rattle.sparse_pattern.specs.Raw.{start_of, end_of, lane_of}
use Rattle.sparse_pattern.proofs.BuiltLanes.{minor_index_below}
use Rattle.sparse_pattern.proofs.LaneLists.{lane_has}
use Rattle.sparse_pattern.proofs.PatternLanes.{length-lane}
use Rattle.sparse_compressed.proofs.LaneSearch.{rising_lane}
use Rattle.sparse_products.specs.InnerOperands.{product_of}
use Rattle.sparse_sums.proofs.UpdatedLanes.{at_offset, off_lane}
use Rattle.sparse_products.proofs.LaneParts.{in_part, off_part}
use Rattle.sparse_products.proofs.ProductLanes.{lane_below}
use Rattle.sparse_products.proofs.ProductRows.{zero_off}
use Rattle.sparse_products.proofs.ExtractedRows.{left_zero}
use Rattle.sparse_products.proofs.serial.scatter.scatter_row.Goals as goal

pub add_product_row-requires-clause-row_sums : goal.add_product_row-requires-clause-row_sums
add_product_row-requires-clause-row_sums g c = λ j h. (
  j,
  refl,
  omega (
    arith,
    minor_index_below c.args.update.now.matrices.b.now.pattern c.values-2.ensures.sound.valid h.0 j h.2,
    c.requires.cols,
    c.requires.width,
  ),
)

pub gather_row-requires : goal.gather_row-requires
gather_row-requires g c =
    let d = c.args.pattern.now in
    let i = c.args.i in
    let old = c.args.values.now in
    let valid = c.major_offsets-offsets.ensures.valid in
    let in_lane = valid.lanes i c.requires.lane in
    let within : end_of d i ≤ length old = omega (arith, c.requires.sizes.count, in_lane.inside) in
    rw (c.major_offsets-offsets.ensures.offsets, c.lane.ensures) record {
      rising = rising_lane d i in_lane;
      inside = λ k z lt. omega (
        arith,
        lane_below d valid i c.requires.lane k z lt,
        c.requires.width,
        c.add_product_row.auto.target,
      );
      count = mid_len _ _ old (omega (arith, within, in_lane.ordered))
          ∙ sym (length-lane d i in_lane);
    }

pub returns : goal.returns
returns g c =
    let R = g.T.Ring.ring in
    let f = g.T.Ring.value in
    let z = g.T.Zero.zero_value in
    let d = c.args.pattern.now in
    let i = c.args.i in
    let old = c.args.values.now in
    let part = c.gather_row.new.values in
    let valid = c.major_offsets-offsets.ensures.valid in
    let offsets_are = c.major_offsets-offsets.ensures.offsets in
    let in_lane = valid.lanes i c.requires.lane in
    let s = start_of d i in
    let n = end_of d i - s in
    let lane_long = length-lane d i in_lane in
    let within : s + n ≤ length old =
    omega (arith, c.requires.sizes.count, in_lane.inside, in_lane.ordered) in
    let part_long : length part ≡ n =
    rw offsets_are at (c.gather_row.auto.values ∙ mid_len _ _ old (omega (
      arith,
      within,
      in_lane.ordered,
      ap (λ xs. get_or xs (i + 1) 0) offsets_are,
    ))) in
    let a_lane : i < c.args.update.now.matrices.a.now.pattern.major_dim =
    omega (arith, c.requires.lane, c.requires.sizes.lanes) in
    let sa = c.values.ensures.sound in
    let sb = c.values-2.ensures.sound in
    let x = (product_of R f c.args.update.now.matrices).value in
    let alpha = f c.args.update.now.alpha in
    let row = c.add_product_row.new.target in
    let is_row : (j : ℕ) → j < length row → f (get_or row j z) ≡ R.mul alpha (x i j) = λ j lt.
    c.add_product_row.ensures.added.added j j refl
    (omega (arith, lt, c.add_product_row.auto.target))
    ∙ ap (λ y. R.add y (R.mul alpha (x i j))) (c.requires.zero j)
    ∙ zero_add R (R.mul alpha (x i j)) in
    let gathered = rw (offsets_are, c.lane.ensures) at c.gather_row.ensures.gathered in
    let extracted = rw c.lane.ensures at c.gather_row.ensures.extracted in
    let counted = rw c.lane.ensures at c.gather_row.ensures.counted in
    rw offsets_are record {
      zero = left_zero R f (λ j. R.mul alpha (x i j)) g.met.T.Ring.zero_law
          (λ j none. ap (R.mul alpha) (zero_off R f sa sb c.requires.sizes.inner i a_lane
          (lane_of d i) (λ j h. (lane_has d valid i j c.requires.lane).1 (c.requires.contained j h))
          j none)
          ∙ mul_zero R alpha) is_row extracted;
      updated = λ j p at.
          let q = at_offset d i j p in_lane at in
          let was : get_or (slice_range old s (end_of d i)) (p - s) z ≡ get_or old p z =
          get_or-between old s (end_of d i) (p - s) z (omega (arith, q.back, at.0.to))
          ∙ ap (λ p. get_or old p z) q.back in
          let col : j < length row = omega (
            arith,
            lane_below d valid i c.requires.lane (p - s) 0 q.within,
            q.index,
            c.requires.width,
            c.add_product_row.auto.target,
          ) in
          ap f (in_part s n old part z within part_long p at.0.from
          (omega (arith, at.0.to, in_lane.ordered)))
          ∙ rw (was, q.index) at (gathered (p - s) q.within)
          ∙ ap (R.add (R.mul (f c.args.update.now.beta) (f (get_or old p z)))) (is_row j col);
      others = λ p none. off_part s n old part z within part_long p
          (elim (off_lane d i p c.requires.lane none) [
            | inl below ↦ inl below
            | inr past ↦ inr (omega (arith, past, in_lane.ordered))
          ]);
      counted = omega (
        arith,
        c.add_product_row.ensures.counted,
        counted,
        lane_long,
        in_lane.ordered,
      );
    }

pub offset_bounds-values-begin : goal.offset_bounds-values-begin
offset_bounds-values-begin g c =
    let d = c.args.pattern.now in
    let lane = c.major_offsets-offsets.ensures.valid.lanes c.args.i c.requires.lane in
    let within : start_of d c.args.i ≤ length c.args.values.now =
    omega (arith, c.requires.sizes.count, lane.ordered, lane.inside) in
    rw c.major_offsets-offsets.ensures.offsets (search (scaled_fits≤, within, c.well_formed))
