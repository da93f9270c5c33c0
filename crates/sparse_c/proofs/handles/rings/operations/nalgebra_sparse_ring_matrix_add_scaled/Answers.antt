use Rattle.std.proofs.Common.{◌≡◌, rules, to_z, of_z}
use Rattle.std.specs.Int.{w32, w64}
use Rattle.sparse_c.proofs.handles.rings.operations.nalgebra_sparse_ring_matrix_add_scaled.Goals as goal

pub returns-clause-answer : goal.returns-clause-answer
returns-clause-answer c =
    let same : to_z w32 (of_z w32 c.combine.result) ≡ c.combine.result = search rules in
    let first : c.args.alpha ≡ to_z w64 (of_z w64 c.args.alpha) = search rules in
    let second : c.args.beta ≡ to_z w64 (of_z w64 c.args.beta) = search rules in
    rw same (rw first (rw second c.combine.ensures.answer))
