use Rattle.std.proofs.Common.{◌≡◌, ◌+◌}
use Rattle.sparse_products.specs.InnerOperands.{product_of}
use Rattle.sparse_products.specs.InnerUpdates.{steps_below}
use Rattle.sparse_sums.proofs.UpdatedLanes.{HasUpdatedLanes}
use Rattle.sparse_products.proofs.serial.search.search_rows.Given as goal

abbrev pub invariant-loop-i : goal.invariant-loop-i
invariant-loop-i g l =
    let R = g.T.Ring.ring in
    let f = g.T.Ring.value in
    let u = l.fn.update in
    record {
      rows : HasUpdatedLanes R f g.T.Zero.zero_value l.pattern f (f u.alpha)
          (product_of R f u.matrices).value l.initial.values l.values l.i;
      counted : l.steps ≡ l.initial.steps + steps_below l.i u.matrices.a.now.pattern
          u.matrices.b.now.pattern;
    }
