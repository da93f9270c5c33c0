use Rattle.std.proofs.Common.{◌<◌, ◌≡◌, length, inl, inr, ap, sym, subst, ◌∙◌, map, refl, rules, take}
use Rattle.sparse_algebra.specs.Integers.{element_of}
use Rattle.sparse_algebra.specs.WrappingValues.{w64_value}
use Rattle.c_arrays.proofs.Holding.{HoldsRows-put}
use Rattle.c_arrays.proofs.Meanings.{place_count-rows}
use Rattle.c_arrays.specs.Arrays.{ring64}
use Rattle.c_handles.proofs.narrow.write_narrow.Goals as goal

pub returns-then-indices-count-clause-fault : goal.returns-then-indices-count-clause-fault
returns-then-indices-count-clause-fault c = inr (
  search rules,
  refl,
  inr (inl (subst
      (λ n. length c.args.indices.now < n) (ap length c.csr_data.ensures.values
      ∙ sym (place_count-rows ring64 w64_value c.args.matrix.now c.csr_data.ensures.sound))
      c.if-indices-count.true)),
)

pub returns-then-values-count-clause-fault : goal.returns-then-values-count-clause-fault
returns-then-values-count-clause-fault c = inr (
  search rules,
  refl,
  inr (inr (subst
      (λ n. length c.args.values.now < n) (ap length c.csr_data.ensures.values
      ∙ sym (place_count-rows ring64 w64_value c.args.matrix.now c.csr_data.ensures.sound))
      c.if-values-count.true)),
)

pub returns-clause-written : goal.returns-clause-written
returns-clause-written c =
    let os = c.put_narrow.new.target in
    let is = c.put_narrow-2.new.target in
    let vs = c.put_scalars.new.target in
    HoldsRows-put ring64 w64_value c.args.matrix.now c.csr_data.ensures.sound os is vs
    (length c.csr_data.result.2.now)
    (subst (λ xs. take (length xs) os ≡ xs) c.csr_data.ensures.offsets c.put_narrow.ensures.written)
    (subst (λ xs. take (length xs) is ≡ xs) c.csr_data.ensures.indices
    c.put_narrow-2.ensures.written)
    (subst (λ xs. map (element_of ring64) (take (length xs) vs) ≡ map w64_value xs)
    c.csr_data.ensures.values c.put_scalars.ensures.written)
    (ap length c.csr_data.ensures.values)
