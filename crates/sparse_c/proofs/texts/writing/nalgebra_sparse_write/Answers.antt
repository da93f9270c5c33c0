use Rattle.std.proofs.Common.{◌≡◌, ℕ, ◌<◌, List, length, inl, inr}
use Rattle.std.proofs.Common.{ap, sym, subst, ◌∙◌, rules, to_z, of_z}
use Rattle.std.specs.Int.{w32}
use Rattle.c_arrays.specs.Lists.{HoldsText}
use Rattle.c_arrays.proofs.Answering.{size_kept, size_needed}
use Rattle.c_arrays.proofs.ValidStatuses.{FindsNoFault-sound, list_finds_fault}
use Rattle.c_arrays.proofs.Joining.{found, refused}
use Rattle.sparse_c.proofs.texts.writing.nalgebra_sparse_write.Goals as goal

pub returns : goal.returns
returns c =
    let status = c.finish_text.result in
    let same : to_z w32 (of_z w32 status) ≡ status = search rules in
    let x = c.args in
    let answer = c.text_of_list-answer.result in
    let ensured = c.text_of_list-answer.ensures in
    let ended = c.finish_text.ensures in
    let new = c.finish_text.new in
    let told = list_finds_fault x.rows x.cols x.row_indices.now x.col_indices.now x.values.now in
    record {
      written = λ h.
          let p = found answer ensured.text (ended.written (sym same ∙ h)) in
          subst (λ (text : List ℕ). HoldsText text new.buffer new.size) p.1.0 p.1.1;
      rest = search rules;
      sound = FindsNoFault-sound _ _ answer status _ same ensured.sound ensured.fault
          (λ e fault is. absurd (told e fault is)) ended.written ended.refused;
      untouched = λ h. (
        ended.untouched (λ e. h (same ∙ e)),
        λ other. size_kept _ status answer x.out_length.now new.size ended.kept ended.refused
            (λ e. h (same ∙ e)) (λ small. other (same ∙ small)),
      );
      needed = λ small.
          let p = size_needed _ status answer (λ e fault is. told e fault (inr (inl is))) ensured.text
          ensured.fault ended.needed ended.refused (sym same ∙ small) in
          p.1.1 ∙ ap length p.1.0;
      refused = λ h. refused answer ensured.text status _ same ensured.fault (λ e given. given)
          (λ text p small. subst (λ (t : List ℕ). length x.out_text.now < length t) p small)
          (ended.refused (λ e. h (same ∙ e)));
    }
