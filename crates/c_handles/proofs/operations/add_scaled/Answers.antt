use Rattle.std.proofs.Common.{◌≡◌, ap, ◌∙◌, rules, to_z, of_z}
use Rattle.std.specs.Int.{w64}
use Rattle.sparse_algebra.specs.Integers.{element_of}
use Rattle.sparse_algebra.specs.Plain.{plain_scaled, plain_sum}
use Rattle.c_arrays.specs.Arrays.{ring64}
use Rattle.c_handles.proofs.Done.{one_shape-held, plain_of_rows-held, OnOk-HoldsSum}
use Rattle.c_handles.proofs.operations.add_scaled.Goals as goal

pub returns-clause-done : goal.returns-clause-done
returns-clause-done c =
    let a = plain_of_rows-held c.args.a.now.value _ _ c.in_ok-a.ensures.first c.deref.ensures in
    let b = plain_of_rows-held c.args.b.now.value _ _ c.in_ok-a.ensures.second c.deref-2.ensures in
    let first : to_z w64 (of_z w64 c.args.alpha) ≡ c.args.alpha = search rules in
    let second : to_z w64 (of_z w64 c.args.beta) ≡ c.args.beta = search rules in
    let alpha = c.from_number-alpha.ensures ∙ ap (element_of ring64) first in
    let beta = c.from_number-beta.ensures ∙ ap (element_of ring64) second in
    OnOk-HoldsSum c.put.result c.put.new.handle.value c.args.a.now.value c.args.b.now.value _ _
    (one_shape-held _ _ _ _ c.in_ok-a.ensures.first c.in_ok-a.ensures.second c.in_ok-a.ensures.rows
    c.in_ok-a.ensures.cols)
    c.put.ensures.put
    (c.in_ok-sum.ensures ∙ (λ i. plain_sum ring64 (plain_scaled ring64 (alpha i) (a i))
    (plain_scaled ring64 (beta i) (b i))))
