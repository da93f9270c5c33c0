use Rattle.std.proofs.Common.{◌∙◌, rules}
use Rattle.sparse_algebra.specs.Plain.{plain_product}
use Rattle.c_arrays.specs.Arrays.{ring64}
use Rattle.c_handles.proofs.Done.{inner_size-held, plain_of_rows-held, OnOk-HoldsProduct}
use Rattle.c_handles.proofs.operations.multiply.Goals as goal

pub returns-clause-done : goal.returns-clause-done
returns-clause-done c =
    let a = plain_of_rows-held c.args.a.now.value _ _ c.in_ok-a.ensures.first c.deref-3.ensures in
    let b = plain_of_rows-held c.args.b.now.value _ _ c.in_ok-a.ensures.second c.deref-4.ensures in
    OnOk-HoldsProduct c.put.result c.put.new.handle.value c.args.a.now.value c.args.b.now.value _ _
    (inner_size-held _ _ _ _ c.in_ok-a.ensures.first c.in_ok-a.ensures.second (search rules))
    c.put.ensures.put
    (c.in_ok-product.ensures ∙ (λ i. plain_product ring64 (a i) (b i)))
