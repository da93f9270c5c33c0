use Rattle.std.proofs.Common.{◌≡◌, ℕ, inl, inr, sym, subst, ◌∙◌, rules, to_z, of_z}
use Rattle.std.proofs.lemmas.Int.{to_z-of_z}
use Rattle.std.specs.Int.{w32}
use Rattle.sparse_pattern.specs.Raw.{raw_of}
use Rattle.sparse_c.specs.Fills.{IsFaultOfFill, IsFillOf}
use Rattle.sparse_c.proofs.ValidOperands.{fill_told}
use Rattle.c_arrays.proofs.Answering.{size_kept, size_needed}
use Rattle.c_arrays.proofs.ValidStatuses.{FindsNoFault-sound}
use Rattle.c_arrays.proofs.Joining.{found, refused}
use Rattle.c_arrays.specs.Arrays.{pattern_output_arrays}
use Rattle.c_arrays.specs.Rests.{KeepsPatternRest}
use Rattle.sparse_c.proofs.systems.fill.nalgebra_sparse_fill.Goals as goal

pub returns : goal.returns
returns c =
    let status = c.finish_pattern.result in
    let same : to_z w32 (of_z w32 status) ≡ status = search rules in
    let x = c.args in
    let answer = c.fill_of-answer.result in
    let ensured = c.fill_of-answer.ensures in
    let ended = c.finish_pattern.ensures in
    let old = pattern_output_arrays x.out_offsets.now x.out_indices.now x.out_places.now in
    let new = pattern_output_arrays c.finish_pattern.new.offsets c.finish_pattern.new.indices
    c.finish_pattern.new.places in
    let pattern = raw_of x.size x.size x.offsets.now x.indices.now in
    let triangle = to_z-of_z w32 x.triangle c.ranges.triangle in
    record {
      written = λ h.
          let p = found answer ensured.fill (ended.written (sym same ∙ h)) in
          (p.0, subst (λ n. IsFillOf n pattern p.0) triangle p.1.0, p.1.1);
      rest = λ h.
          let p = found answer ensured.fill (ended.rest (sym same ∙ h)) in
          subst (λ (n : ℕ). KeepsPatternRest n old new) p.1.0.columns p.1.1;
      sound = FindsNoFault-sound _ _ answer status _ same ensured.sound ensured.fault
          (λ e fault told. absurd (fill_told _ _ e fault told)) ended.written ended.refused;
      unknown = search rules;
      untouched = λ h. (
        ended.untouched (λ e. h (same ∙ e)),
        λ other. size_kept _ status answer x.out_places.now c.finish_pattern.new.places ended.kept
            ended.refused (λ e. h (same ∙ e)) (λ small. other (same ∙ small)),
      );
      needed = λ small.
          let p = size_needed _ status answer (λ e fault is. fill_told _ _ e fault (inr (inl is)))
          ensured.fill ensured.fault ended.needed ended.refused (sym same ∙ small) in
          (p.0, subst (λ n. IsFillOf n pattern p.0) triangle p.1.0, p.1.1);
      refused = λ h. refused answer ensured.fill status _ same ensured.fault
          (λ e. subst (λ n. IsFaultOfFill n pattern e) triangle)
          (λ l p small. (l, subst (λ n. IsFillOf n pattern l) triangle p, small))
          (ended.refused (λ e. h (same ∙ e)));
    }
