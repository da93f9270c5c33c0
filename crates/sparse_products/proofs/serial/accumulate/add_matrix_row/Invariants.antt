use Rattle.std.proofs.Common.{◌≡◌, ◌+◌, length, take, Contains}
use Rattle.sparse_pattern.specs.Raw.{lane_of}
use Rattle.sparse_compressed.specs.InnerLaneValue.{lane_value}
use Rattle.sparse_compressed.proofs.LaneValues.{values_of}
use Rattle.sparse_products.specs.InnerAccumulators.{AreAdded, AreNoted}
use Rattle.sparse_products.proofs.serial.accumulate.add_matrix_row.Given as goal

abbrev pub invariant-loop-j : goal.invariant-loop-j
invariant-loop-j g l =
    let R = g.T.Ring.ring in
    let f = g.T.Ring.value in
    let n = length l.yielded in
    let js = take n (lane_of l.b.pattern l.k) in
    let sum_at = g.S.Accumulators.sum_at in
    let noted = g.S.Accumulators.noted in
    record {
      added : AreAdded R f g.T.Zero.zero_value (sum_at l.initial.row_sums) (f l.scale)
          (lane_value R f js (take n (values_of l.b l.k))) l.initial.target l.target;
      noted : AreNoted (sum_at l.initial.row_sums) (sum_at l.row_sums) (noted l.initial.row_sums)
          (noted l.row_sums) (Contains js);
      counted : l.steps ≡ l.initial.steps + n;
    }
