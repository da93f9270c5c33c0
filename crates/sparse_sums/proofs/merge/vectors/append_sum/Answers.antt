use Rattle.std.proofs.Common.{not, eqb, map, ap, ◌∙◌}
use Rattle.sparse_compressed.specs.InnerLaneValue.{lane_value}
use Rattle.sparse_sums.specs.InnerAdding.{element_at}
use Rattle.sparse_sums.specs.InnerSigns.{signed}
use Rattle.sparse_sums.proofs.Adding.{element_at-map, entries_gained}
use Rattle.sparse_sums.proofs.merge.vectors.append_sum.Goals as goal

pub returns : goal.returns
returns g c =
    let R = g.T.Ring.ring in
    let f = g.T.Ring.value in
    let h = λ (x : g.row.T.Denot). signed R (not (eqb g.row.NEGATE 0)) (f x) in
    let a = c.args.a.now in
    let av = c.args.a_values.now in
    let b = c.args.b.now in
    let bv = c.args.b_values.now in
    let merged = c.merge_into.ensures in
    record {
      gained = entries_gained R f (rw c.reserve-2.ensures.items at merged.extended)
          (rw (c.reserve.ensures.items, c.reserve-2.ensures.items) at merged.gained)
          (λ j. ap (λ s. R.add s (element_at R b (map h bv) j)) (element_at-map R f a av j)
          ∙ ap (R.add (lane_value R f a av j)) (element_at-map R h b bv j));
    }
