use Rattle.std.proofs.Common.{length, slice_index, ap, arith}
use Rattle.sparse_compressed.specs.PlainOfLanes.{plain_of_cols}
use Rattle.mtxkit_matrices.proofs.SingularPivots.{stops_inside, stops_permuted}
use Rattle.mtxkit_matrices.proofs.pivots.singular_pivot.Goals as goal

pub bounds-order-number : goal.bounds-order-number
bounds-order-number g c =
    let R = g.T.Ring.ring in
    let f = g.T.Ring.value in
    let inside = stops_inside R f (plain_of_cols R f c.args.a.now) c.args.order.now
    c.requires.symmetric c.order.ensures.valid c.requires.length
    (plain_of_cols R f c.in_ok-permuted.permuted) c.in_ok-permuted.ensures c.in_ok-number.number
    c.in_ok-number.ensures c.requires.singular in
    omega (arith, inside, c.requires.length, ap length c.order.ensures.order)

pub returns : goal.returns
returns g c =
    let R = g.T.Ring.ring in
    let f = g.T.Ring.value in
    let a = plain_of_cols R f c.args.a.now in
    let m = plain_of_cols R f c.in_ok-permuted.permuted in
    let n = c.in_ok-number.number in
    let p = c.args.order.now in
    record {
      inside = stops_inside R f a p c.requires.symmetric c.order.ensures.valid c.requires.length m
          c.in_ok-permuted.ensures n c.in_ok-number.ensures c.requires.singular;
      stops = stops_permuted R f a p c.requires.symmetric c.order.ensures.valid c.requires.length m
          c.in_ok-permuted.ensures n c.in_ok-number.ensures;
      row = ap (λ l. slice_index l n) c.order.ensures.order;
    }
