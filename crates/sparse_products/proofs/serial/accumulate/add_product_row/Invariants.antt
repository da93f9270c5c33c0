use Rattle.std.proofs.Common.{◌≡◌, ◌+◌, length, take}
use Rattle.std.specs.Prelude.{zip}
use Rattle.sparse_pattern.specs.Raw.{start_of, lane_of}
use Rattle.sparse_algebra.specs.Sums.{sum_by}
use Rattle.sparse_compressed.specs.PlainOfLanes.{plain_of_rows}
use Rattle.sparse_compressed.proofs.LaneValues.{values_of}
use Rattle.sparse_products.specs.InnerProducts.{IsInLanes}
use Rattle.sparse_products.specs.InnerUpdates.{triples_below}
use Rattle.sparse_products.specs.InnerAccumulators.{AreAdded, AreNoted}
use Rattle.sparse_products.proofs.serial.accumulate.add_product_row.Given as goal

abbrev pub invariant-loop-k : goal.invariant-loop-k
invariant-loop-k g l =
    let R = g.T.Ring.ring in
    let f = g.T.Ring.value in
    let n = length l.yielded in
    let s = start_of l.matrices.a.now.pattern l.i in
    let ks = take n (lane_of l.matrices.a.now.pattern l.i) in
    let sum_at = g.S.Accumulators.sum_at in
    let noted = g.S.Accumulators.noted in
    record {
      added : AreAdded R f g.T.Zero.zero_value (sum_at l.initial.row_sums) (f l.alpha)
          (λ j. sum_by R (λ t. R.mul (f t.1) ((plain_of_rows R f l.matrices.b.now).value t.0 j))
          (zip ks (take n (values_of l.matrices.a.now l.i)))) l.initial.target l.target;
      noted : AreNoted (sum_at l.initial.row_sums) (sum_at l.row_sums) (noted l.initial.row_sums)
          (noted l.row_sums) (IsInLanes l.matrices.b.now.pattern ks);
      counted : l.steps + s + triples_below s l.matrices.a.now.pattern l.matrices.b.now.pattern
          ≡ l.initial.steps + (s + n)
          + triples_below (s + n) l.matrices.a.now.pattern l.matrices.b.now.pattern;
    }
