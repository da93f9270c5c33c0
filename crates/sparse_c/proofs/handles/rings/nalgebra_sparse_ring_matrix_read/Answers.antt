use Rattle.std.proofs.Common.{◌≡◌, sym, subst, rules, to_z, of_z}
use Rattle.std.specs.Int.{w32}
use Rattle.sparse_compressed.specs.Compressed.{IsSound}
use Rattle.sparse_c.proofs.HeldMatrices.{held_parts}
use Rattle.sparse_c.proofs.HeldResults.{read_held}
use Rattle.sparse_c.specs.HeldRings.{WritesHeldRows}
use Rattle.sparse_c.specs.Rooms.{held_in}
use Rattle.c_arrays.proofs.Answering.{seen_rows}
use Rattle.c_arrays.specs.Arrays.{output_arrays}
use Rattle.c_handles.specs.declared.ring_matrix.RingMatrix.{RingMatrix}
use Rattle.sparse_c.proofs.handles.rings.nalgebra_sparse_ring_matrix_read.Goals as goal

pub returns-in-Ok-clause-answered : goal.returns-in-Ok-clause-answered
returns-in-Ok-clause-answered c =
    let status = c.by_modulus.result in
    let same : to_z w32 (of_z w32 status) ≡ status = search rules in
    let handle = c.args.a.now.value in
    let s : RingMatrix = record { modulus = c.deref.result.now.modulus; matrix = c.lanes.result } in
    let before = output_arrays c.args.out_offsets.now c.args.out_indices.now
    c.args.out_values.now c.args.out_places.now in
    let made : WritesHeldRows handle before (held_in c.by_modulus.new.out)
    (to_z w32 (of_z w32 status)) =
    seen_rows same (read_held handle s _ _ status
    (held_parts handle _ c.deref.result.now c.deref-in-Ok.result.now c.lanes.result
    c.in-Ok.ensures.value c.deref.ensures c.deref-in-Ok.ensures c.lanes.ensures.is)
    (subst IsSound (sym c.lanes.ensures.is) c.lanes.ensures.sound) c.by_modulus.ensures.does.answer) in
    let arrays = c.by_modulus.ensures.does.arrays in
    search rules
