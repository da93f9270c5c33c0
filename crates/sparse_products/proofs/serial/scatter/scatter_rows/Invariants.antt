use Rattle.std.proofs.Common.{◌≡◌, ◌+◌, vec_len}
use Rattle.sparse_pattern.specs.Raw.{start_of}
use Rattle.sparse_products.specs.InnerOperands.{product_of}
use Rattle.sparse_products.specs.InnerProducts.{IsZeroRow}
use Rattle.sparse_products.specs.InnerUpdates.{steps_below}
use Rattle.sparse_sums.proofs.UpdatedLanes.{HasUpdatedLanes}
use Rattle.sparse_products.proofs.serial.scatter.scatter_rows.Given as goal

abbrev pub invariant-loop-i : goal.invariant-loop-i
invariant-loop-i g l =
    let R = g.T.Ring.ring in
    let f = g.T.Ring.value in
    let z = g.T.Zero.zero_value in
    let u = l.fn.update in
    record {
      width : vec_len l.row ≡ l.pattern.minor_dim;
      zero : IsZeroRow R f z l.row.items;
      rows : HasUpdatedLanes R f z l.pattern (λ c. R.mul (f u.beta) (f c)) (f u.alpha)
          (product_of R f u.matrices).value l.initial.values l.values l.i;
      counted : l.steps ≡ l.initial.steps + steps_below l.i u.matrices.a.now.pattern
          u.matrices.b.now.pattern
          + start_of l.pattern l.i;
    }
