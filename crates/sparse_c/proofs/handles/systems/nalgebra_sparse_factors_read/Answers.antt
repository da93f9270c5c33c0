use Rattle.std.proofs.Common.{◌≡◌, ℤ, sym, subst, ◌∙◌, rules, to_z, of_z}
use Rattle.std.specs.Int.{w32}
use Rattle.sparse_c.proofs.HeldFactors.{held_answered, held_missing}
use Rattle.sparse_c.specs.Factors.{WritesHeldFactors}
use Rattle.c_arrays.specs.Arrays.{output_arrays}
use Rattle.c_arrays.specs.declared.refusal.Refusal.TheVariants.{EmptyHandle}
use Rattle.sparse_c.proofs.handles.systems.nalgebra_sparse_factors_read.Goals as goal

pub returns : goal.returns
returns c =
    let status = c.finish_factors.result in
    let same : to_z w32 (of_z w32 status) ≡ status = search rules in
    let handle = c.args.factors.now.value in
    let answer = c.copied_factors-answer.result in
    let ensured = c.copied_factors-answer.ensures in
    let ended = c.finish_factors.ensures in
    let new = c.finish_factors.new in
    let x = c.args in
    let old = x.out_diagonal.now in
    let before = output_arrays x.out_offsets.now x.out_indices.now x.out_values.now x.out_places.now
    in
    let after = output_arrays new.offsets new.indices new.values new.places in
    record {
      kept = ensured.kept;
      missing = λ none. same ∙ held_missing _ _ answer EmptyHandle status (ensured.missing none)
          ended.written ended.refused;
      answered = subst (λ (s : ℤ). WritesHeldFactors handle before after old new.pivots s)
          (sym same) (held_answered (λ d. d.items) handle answer ensured.columns ensured.diagonal
          ensured.count before after old new.pivots status ensured.fault ended.written ended.rest
          ended.rest_pivots ended.untouched ended.untouched_pivots ended.needed ended.kept
          ended.refused);
    }
