use Rattle.std.proofs.Common.{◌≡◌, length, take, sym, ap, ◌∙◌, arith, subst}
use Rattle.std.proofs.Math.Seq.{take-length}
use Rattle.sparse_permutation.specs.Permutations.{IsOrder, composed}
use Rattle.sparse_permutation.proofs.Orders.{composed_order}
use Rattle.sparse_permutation.proofs.permutation.Permutation.followed_by.Goals as goal

pub invariant_of-result : goal.invariant_of-result
invariant_of-result c =
    let p = c.args.self.now in
    let q = c.args.next.now in
    let items = c.order-index-items.result.now in
    let end : c.loop-index.index-index ≡ length items = omega arith in
    let whole : c.loop-index.composed.items ≡ composed p q =
    c.loop-index.invariant ∙ ap (λ n. composed c.order-order.result.now (take n items)) end
    ∙ ap (composed c.order-order.result.now) (take-length items)
    ∙ ap (λ r. composed r items) c.order-order.ensures.order
    ∙ ap (composed p) c.order-index-items.ensures.order in
    subst IsOrder (sym whole) (composed_order c.order-order.ensures.valid q c.requires
    c.order-index-items.ensures.valid)
