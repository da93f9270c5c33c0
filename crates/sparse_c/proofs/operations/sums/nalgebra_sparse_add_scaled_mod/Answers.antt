use Rattle.std.proofs.Common.{◌≡◌, rules, to_z, of_z}
use Rattle.std.proofs.lemmas.Int.{to_z-of_z}
use Rattle.std.specs.Int.{w32, w64}
use Rattle.sparse_algebra.specs.Moduli.{mod_ring}
use Rattle.sparse_compressed.specs.Compressed.{arrays_of}
use Rattle.sparse_c.proofs.Combined.{seen_multiples}
use Rattle.sparse_c.proofs.operations.sums.nalgebra_sparse_add_scaled_mod.Goals as goal

pub returns-clause-answered : goal.returns-clause-answered
returns-clause-answered c =
    let same : to_z w32 (of_z w32 c.by_modulus.result) ≡ c.by_modulus.result = search rules in
    let x = c.args in
    let a = arrays_of x.rows x.cols x.a_offsets.now x.a_indices.now x.a_values.now in
    let b = arrays_of x.rows x.cols x.b_offsets.now x.b_indices.now x.b_values.now in
    let ensured = seen_multiples (mod_ring x.modulus) a b (to_z-of_z w64 x.alpha c.ranges.alpha)
    (to_z-of_z w64 x.beta c.ranges.beta) same c.by_modulus.ensures.does.answer in
    search rules
