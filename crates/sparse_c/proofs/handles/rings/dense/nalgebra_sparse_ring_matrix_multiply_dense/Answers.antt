use Rattle.std.proofs.Common.{◌≡◌, ap, sym, subst, ◌∙◌, rules, to_z, of_z}
use Rattle.std.specs.Int.{w32}
use Rattle.std.specs.Prelude.{Option, Some}
use Rattle.sparse_c.specs.HeldRings.{WritesHeldProduct}
use Rattle.c_handles.specs.declared.ring_matrix.RingMatrix.{RingMatrix}
use Rattle.sparse_c.proofs.handles.rings.dense.nalgebra_sparse_ring_matrix_multiply_dense.Goals as goal

pub returns-in-Ok-clause-answered : goal.returns-in-Ok-clause-answered
returns-in-Ok-clause-answered c =
    let status = c.write_product.result in
    let same : to_z w32 (of_z w32 status) ≡ status = search rules in
    rw same (subst (λ (h : Option RingMatrix). WritesHeldProduct h c.args.cols c.args.b_values.now
    c.args.out_values.now c.write_product.new.out status)
    (ap Some c.deref.ensures ∙ sym c.in-Ok.ensures.value) c.write_product.ensures.answered)
