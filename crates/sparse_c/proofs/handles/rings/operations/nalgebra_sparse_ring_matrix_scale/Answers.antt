use Rattle.std.proofs.Common.{◌≡◌, sym, subst, rules, to_z, of_z}
use Rattle.std.specs.Int.{w32, w64}
use Rattle.sparse_algebra.specs.Integers.{element_of}
use Rattle.sparse_algebra.specs.Moduli.{mod_ring}
use Rattle.sparse_algebra.specs.Plain.{plain_scaled}
use Rattle.sparse_compressed.specs.Compressed.{IsSound}
use Rattle.sparse_c.proofs.HeldMatrices.{computed_from_one, held_parts}
use Rattle.c_handles.specs.declared.ring_matrix.RingMatrix.{RingMatrix}
use Rattle.sparse_c.proofs.handles.rings.operations.nalgebra_sparse_ring_matrix_scale.Goals as goal

pub returns-in-Ok-clause-answer : goal.returns-in-Ok-clause-answer
returns-in-Ok-clause-answer c =
    let same : to_z w32 (of_z w32 c.store.result) ≡ c.store.result = search rules in
    let handle = c.args.a.now.value in
    let s : RingMatrix = record { modulus = c.deref-in-Ok.result.now.modulus; matrix = c.lanes.result } in
    let factor = to_z w64 (of_z w64 c.args.factor) in
    let fits : factor ≡ c.args.factor = search rules in
    rw (sym fits) (computed_from_one c.store.new.out.value same
    (λ m a. plain_scaled (mod_ring m) (element_of (mod_ring m) factor) a) handle s
    (held_parts handle _ c.deref-in-Ok.result.now c.deref.result.now c.lanes.result
    c.in-Ok.ensures.value c.deref-in-Ok.ensures c.deref.ensures c.lanes.ensures.is)
    (subst IsSound (sym c.lanes.ensures.is) c.lanes.ensures.sound) c.store.ensures.answer)
