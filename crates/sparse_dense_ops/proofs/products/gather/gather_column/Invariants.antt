use Rattle.sparse_algebra.specs.Plain.{plain_product}
use Rattle.sparse_compressed.specs.PlainOfLanes.{plain_of_rows}
use Rattle.sparse_dense_ops.specs.DenseOperands.{op_dense}
use Rattle.sparse_dense_ops.specs.InnerUpdates.{IsUpdatedBelow}
use Rattle.sparse_dense_ops.proofs.products.gather.gather_column.Given as goal

abbrev pub invariant-loop-i : goal.invariant-loop-i
invariant-loop-i g l =
    let R = g.T.Ring.ring in
    let f = g.T.Ring.value in
    let product = plain_product R (plain_of_rows R f l.fn.change.a.now)
    (op_dense R f l.fn.change.b) in
    IsUpdatedBelow R f g.T.Zero.zero_value (f l.fn.change.beta) (f l.fn.change.alpha) l.i
    (λ i. product.value i l.fn.j) l.initial.c l.c
