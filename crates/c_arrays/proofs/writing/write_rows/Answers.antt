use Rattle.std.proofs.Common.{◌<◌, ◌≡◌, length, inl, inr, ap, sym, subst, ◌∙◌, map, take}
use Rattle.sparse_algebra.specs.Integers.{element_of}
use Rattle.c_arrays.proofs.Holding.{HoldsRows-put}
use Rattle.c_arrays.proofs.Meanings.{place_count-rows}
use Rattle.c_arrays.proofs.writing.write_rows.Goals as goal

pub returns-then-indices-count-clause-small : goal.returns-then-indices-count-clause-small
returns-then-indices-count-clause-small g c = λ _. inr (inl (subst
    (λ n. length c.args.indices.now < n) (ap length c.csr_data.ensures.values
    ∙ sym (place_count-rows g.T.Ring.ring g.T.Ring.value c.args.matrix.now c.csr_data.ensures.sound))
    c.if-indices-count.true))

pub returns-then-values-count-clause-small : goal.returns-then-values-count-clause-small
returns-then-values-count-clause-small g c = λ _. inr (inr (subst
    (λ n. length c.args.values.now < n) (ap length c.csr_data.ensures.values
    ∙ sym (place_count-rows g.T.Ring.ring g.T.Ring.value c.args.matrix.now c.csr_data.ensures.sound))
    c.if-values-count.true))

pub returns-clause-written : goal.returns-clause-written
returns-clause-written g c =
    let R = g.T.Ring.ring in
    let f = g.T.Ring.value in
    let os = c.put_items.new.target in
    let is = c.put_items-2.new.target in
    let vs = c.put_scalars.new.target in
    λ _. HoldsRows-put R f c.args.matrix.now c.csr_data.ensures.sound os is vs
    (length c.csr_data.result.2.now)
    (subst (λ xs. take (length xs) os ≡ xs) c.csr_data.ensures.offsets c.put_items.ensures.written)
    (subst (λ xs. take (length xs) is ≡ xs) c.csr_data.ensures.indices
    c.put_items-2.ensures.written)
    (subst (λ xs. map (element_of R) (take (length xs) vs) ≡ map f xs) c.csr_data.ensures.values
    c.put_scalars.ensures.written)
    (ap length c.csr_data.ensures.values)
