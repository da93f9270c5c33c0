use Rattle.std.proofs.Common.{◌≡◌, ℤ, ap, sym, subst, ◌∙◌, rules, to_z, of_z}
use Rattle.std.specs.Int.{w32, w64}
use Rattle.sparse_algebra.specs.Integers.{element_of}
use Rattle.sparse_algebra.specs.Moduli.{mod_ring}
use Rattle.sparse_compressed.specs.Compressed.{Compressed, IsSound}
use Rattle.sparse_c.proofs.HeldMatrices.{computed_from_two, held_parts}
use Rattle.sparse_c.specs.Combinations.{combined_by, HaveShapesFor}
use Rattle.c_handles.specs.declared.ring_matrix.RingMatrix.{RingMatrix}
use Rattle.sparse_c.proofs.handles.rings.operations.combine.Goals as goal

pub returns-in-Ok-clause-answer : goal.returns-in-Ok-clause-answer
returns-in-Ok-clause-answer c =
    let told : to_z w32 (of_z w32 c.store.result) ≡ c.store.result = search rules in
    let x = c.deref-in-Ok-2.result.now in
    let y = c.deref-in-Ok.result.now in
    let s : RingMatrix = record { modulus = x.modulus; matrix = c.lanes.result } in
    let t : RingMatrix = record { modulus = y.modulus; matrix = c.lanes-in-Ok.result } in
    let number = λ (z : RingMatrix). z.modulus in
    let alpha = to_z w64 (of_z w64 c.args.scales.0) in
    let beta = to_z w64 (of_z w64 c.args.scales.1) in
    let first : alpha ≡ c.args.scales.0 = search rules in
    let second : beta ≡ c.args.scales.1 = search rules in
    let matrix = λ (z : RingMatrix). z.matrix in
    let fit = subst (λ (p : Compressed ℤ × Compressed ℤ). HaveShapesFor c.args.how p.0 p.1)
    (λ k. (
      (ap matrix (sym c.deref.ensures) ∙ sym c.lanes.ensures.is) k,
      (ap matrix (sym c.deref-in-Ok.ensures) ∙ sym c.lanes-in-Ok.ensures.is) k,
    ))
    c.in-Ok.ensures.shapes in
    rw (sym first) (rw (sym second) (computed_from_two c.store.new.out.value told c.args.how
    (λ m a b. combined_by (mod_ring m) c.args.how (element_of (mod_ring m) alpha) a
    (element_of (mod_ring m) beta) b) c.args.a.now.value c.args.b.now.value s t
    (held_parts c.args.a.now.value _ x c.deref.result.now c.lanes.result c.in-Ok.ensures.first
    c.deref-in-Ok-2.ensures c.deref.ensures c.lanes.ensures.is)
    (held_parts c.args.b.now.value _ y y c.lanes-in-Ok.result c.in-Ok.ensures.second
    c.deref-in-Ok.ensures c.deref-in-Ok.ensures c.lanes-in-Ok.ensures.is)
    (ap number c.deref-in-Ok.ensures ∙ c.in-Ok.ensures.ring
    ∙ sym (ap number c.deref-in-Ok-2.ensures)) fit
    (subst IsSound (sym c.lanes.ensures.is) c.lanes.ensures.sound)
    (subst IsSound (sym c.lanes-in-Ok.ensures.is) c.lanes-in-Ok.ensures.sound)
    c.store.ensures.answer))
