use Rattle.std.proofs.Common.{◌∙◌}
use Rattle.sparse_algebra.specs.Plain.{plain_difference}
use Rattle.c_arrays.specs.Arrays.{ring64}
use Rattle.c_handles.proofs.Done.{one_shape-held, plain_of_rows-held, OnOk-HoldsSum}
use Rattle.c_handles.proofs.operations.subtract.Goals as goal

pub returns-clause-done : goal.returns-clause-done
returns-clause-done c =
    let a = plain_of_rows-held c.args.a.now.value _ _ c.in_ok-a.ensures.first c.deref.ensures in
    let b = plain_of_rows-held c.args.b.now.value _ _ c.in_ok-a.ensures.second c.deref-2.ensures in
    OnOk-HoldsSum c.put.result c.put.new.handle.value c.args.a.now.value c.args.b.now.value _ _
    (one_shape-held _ _ _ _ c.in_ok-a.ensures.first c.in_ok-a.ensures.second c.in_ok-a.ensures.rows
    c.in_ok-a.ensures.cols)
    c.put.ensures.put
    (c.in_ok-difference.ensures ∙ (λ i. plain_difference ring64 (a i) (b i)))
