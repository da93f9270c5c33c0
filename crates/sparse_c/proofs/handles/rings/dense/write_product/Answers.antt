use Rattle.std.proofs.Common.{◌≡◌, ap, sym, subst, ◌∙◌, rules, refl, to_z, of_z}
use Rattle.std.specs.Int.{w32}
use Rattle.std.specs.Prelude.{Some}
use Rattle.sparse_compressed.specs.Compressed.{IsSound}
use Rattle.sparse_c.proofs.HeldMatrices.{held_parts}
use Rattle.sparse_c.proofs.HeldResults.{multiplied_held}
use Rattle.sparse_c.specs.HeldRings.{WritesHeldProduct}
use Rattle.c_handles.specs.declared.ring_matrix.RingMatrix.{RingMatrix}
use Rattle.sparse_c.proofs.handles.rings.dense.write_product.Goals as goal

pub returns-clause-answered : goal.returns-clause-answered
returns-clause-answered c =
    let status = c.by_modulus.result in
    let same : to_z w32 (of_z w32 status) ≡ status = search rules in
    let a = c.args.a.now in
    let s : RingMatrix = record { modulus = a.modulus; matrix = c.lanes.result } in
    let made : WritesHeldProduct (Some a) c.args.cols c.args.b.now c.args.out.now
    c.by_modulus.new.out.values.now status = multiplied_held (Some a) s c.ncols.result
    c.args.cols c.args.b.now _ _ status
    (held_parts (Some a) a a a c.lanes.result refl refl refl c.lanes.ensures.is)
    (subst IsSound (sym c.lanes.ensures.is) c.lanes.ensures.sound)
    (c.ncols.ensures ∙ ap (λ m. m.pattern.minor_dim) (sym c.lanes.ensures.is))
    c.by_modulus.ensures.does.answer in
    let array = c.by_modulus.ensures.does.array in
    rw same (search rules)
