use Rattle.std.proofs.Common.{◌≡◌, sym, ◌∙◌, rules, to_z, of_z}
use Rattle.std.specs.Int.{w32}
use Rattle.sparse_algebra.specs.Numbers.{w64_number}
use Rattle.sparse_parser.specs.Meaning.{values_of}
use Rattle.sparse_c.proofs.Unreadable.{text_error-not_too_small}
use Rattle.c_arrays.proofs.Answering.{size_kept, size_needed}
use Rattle.c_arrays.proofs.Joining.{found, refused}
use Rattle.sparse_c.proofs.texts.reading.nalgebra_sparse_read.Goals as goal

pub returns : goal.returns
returns c =
    let status = c.finish_list.result in
    let same : to_z w32 (of_z w32 status) ≡ status = search rules in
    let answer = c.list_of_text-answer.result in
    let ensured = c.list_of_text-answer.ensures in
    let ended = c.finish_list.ensures in
    record {
      written = λ h.
          let p = found answer ensured.means (ended.written (sym same ∙ h)) in
          (values_of w64_number p.0, p.1.0, p.1.1);
      rest = search rules;
      untouched = λ h. (
        ended.untouched (λ e. h (same ∙ e)),
        λ other. size_kept _ status answer c.args.out_triplets.now c.finish_list.new.count
            ended.kept ended.refused (λ e. h (same ∙ e)) (λ small. other (same ∙ small)),
      );
      needed = λ small.
          let p = size_needed _ status answer (text_error-not_too_small c.args.text.now) ensured.means ensured.fault
          ended.needed ended.refused (sym same ∙ small) in
          (values_of w64_number p.0, p.1.0, p.1.1);
      refused = λ h. refused answer ensured.means status _ same ensured.fault (λ e given. given)
          (λ m p small. (values_of w64_number m, p, small)) (ended.refused (λ e. h (same ∙ e)));
    }
