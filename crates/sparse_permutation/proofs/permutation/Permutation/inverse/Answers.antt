use Rattle.std.proofs.Common.{length, ap, arith}
use Rattle.sparse_permutation.proofs.Orders.{is_inverse, inverse_order}
use Rattle.sparse_permutation.proofs.permutation.Permutation.inverse.Goals as goal

pub returns-clause-inverse : goal.returns-clause-inverse
returns-clause-inverse c =
    let valid = c.order-order.ensures.valid in
    is_inverse valid c.loop-at.inverse.items
    (omega (arith, ap length c.order-order.ensures.order))
    (λ k less. rw c.order-order.ensures.order at
    (c.loop-at.invariant.so_far k (omega (arith, ap length c.order-order.ensures.order))))

pub invariant_of-result : goal.invariant_of-result
invariant_of-result c =
    let valid = c.order-order.ensures.valid in
    inverse_order valid c.loop-at.inverse.items (is_inverse valid c.loop-at.inverse.items
    (omega (arith, ap length c.order-order.ensures.order))
    (λ k less. rw c.order-order.ensures.order at
    (c.loop-at.invariant.so_far k (omega (arith, ap length c.order-order.ensures.order)))))

pub returns-clause-valid : goal.returns-clause-valid
returns-clause-valid c =
    let valid = c.order-order.ensures.valid in
    inverse_order valid c.loop-at.inverse.items (is_inverse valid c.loop-at.inverse.items
    (omega (arith, ap length c.order-order.ensures.order))
    (λ k less. rw c.order-order.ensures.order at
    (c.loop-at.invariant.so_far k (omega (arith, ap length c.order-order.ensures.order)))))
