use Rattle.std.proofs.Common.{◌≡◌, ℕ, ℤ, length, map, ap, sym, subst, ◌∙◌, rules, arith}
use Rattle.std.proofs.lemmas.List.{length-map}
use Rattle.sparse_permutation.specs.Permutations.{IsOrder}
use Rattle.mtxkit_patterns.specs.OrderLists.{IsColumn, index_of}
use Rattle.mtxkit_patterns.proofs.ReadOrders.{means_order, misordered}
use Rattle.mtxkit_patterns.proofs.order_reading.read_order.Goals as goal

pub returns-in-Ok-clause-order : goal.returns-in-Ok-clause-order
returns-in-Ok-clause-order c =
    let list = c.in_ok-list.list in
    let column : IsColumn list = search rules in
    let long : length c.values.result.now ≡ length list.triplets =
    ap length c.values.ensures ∙ length-map list.triplets (λ (t : ℕ × ℕ × ℤ). t.2) in
    means_order c.args.text.now list c.in-Ok.order c.in_ok-list.ensures.meant column
    (c.in-Ok.ensures.ok ∙ c.in_ok-indices.ensures ∙ ap (map index_of) c.values.ensures)
    (subst IsOrder (sym c.in-Ok.ensures.ok) c.in-Ok.ensures.valid)
    (omega (arith, long, c.values.type_inv))

pub returns-clause-refused : goal.returns-clause-refused
returns-clause-refused c =
    let list = c.in_ok-list.list in
    let column : IsColumn list = search rules in
    rw c.named.ensures (misordered c.args.text.now list c.in_ok-indices.indices.items
    c.in_ok-list.ensures.meant column
    (c.in_ok-indices.ensures ∙ ap (map index_of) c.values.ensures) c.args.number c.in-Err.error
    c.in-Err.ensures.first_fault)
