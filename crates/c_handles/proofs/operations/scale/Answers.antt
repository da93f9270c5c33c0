use Rattle.std.proofs.Common.{◌≡◌, ap, ◌∙◌, rules, to_z, of_z}
use Rattle.std.specs.Int.{w64}
use Rattle.sparse_algebra.specs.Integers.{element_of}
use Rattle.sparse_algebra.specs.Plain.{plain_scaled}
use Rattle.c_arrays.specs.Arrays.{ring64}
use Rattle.c_handles.proofs.Done.{OnOk-Holds, plain_of_rows-held}
use Rattle.c_handles.proofs.operations.scale.Goals as goal

pub returns-clause-done : goal.returns-clause-done
returns-clause-done c =
    let a = plain_of_rows-held c.args.a.now.value _ _ c.in_ok-a.ensures.value c.deref.ensures in
    let same : to_z w64 (of_z w64 c.args.factor) ≡ c.args.factor = search rules in
    let factor = c.from_number.ensures ∙ ap (element_of ring64) same in
    OnOk-Holds c.put.result c.put.new.handle.value _ _ c.put.ensures.put
    (c.in_ok-multiple.ensures ∙ (λ i. plain_scaled ring64 (factor i) (a i)))
