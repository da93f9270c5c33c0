use Rattle.std.proofs.Common.{◌∙◌}
use Rattle.sparse_algebra.specs.Plain.{plain_transpose}
use Rattle.c_arrays.specs.Arrays.{ring64}
use Rattle.c_handles.proofs.Done.{OnOk-Holds, plain_of_rows-held}
use Rattle.c_handles.proofs.operations.transpose.Goals as goal

pub returns-clause-done : goal.returns-clause-done
returns-clause-done c =
    let a = plain_of_rows-held c.args.a.now.value _ _ c.in_ok-a.ensures.value c.deref.ensures in
    OnOk-Holds c.put.result c.put.new.handle.value _ _ c.put.ensures.put
    (c.in_ok-transpose.ensures ∙ (λ i. plain_transpose ring64 (a i)))
