use Rattle.std.proofs.Common.{◌≡◌, ◌<◌, ◌*◌, length, ap, sym, subst, ◌∙◌, refl, inr, rules, to_z, of_z}
use Rattle.std.specs.Int.{w32}
use Rattle.sparse_algebra.specs.Plain.{Plain}
use Rattle.c_arrays.specs.Arrays.{ring64, HoldsDense}
use Rattle.c_arrays.specs.Rests.{KeepsBehind}
use Rattle.c_handles.specs.Dense.{dense_product}
use Rattle.c_handles.proofs.Done.{plain_of_rows-held}
use Rattle.c_handles.proofs.dense.multiply_dense.Goals as goal

pub returns-then-finish_dense-eq0-clause-written : goal.returns-then-finish_dense-eq0-clause-written
returns-then-finish_dense-eq0-clause-written c =
    let same : to_z w32 (of_z w32 c.finish_dense.result) ≡ c.finish_dense.result = search rules in
    let a = plain_of_rows-held c.args.a.now.value _ _ c.in_ok-a.ensures.value c.deref.ensures in
    let plain = c.in_ok-product.ensures.plain
    ∙ ap (λ (p : Plain ring64). dense_product p c.args.cols c.args.b.now) a in
    subst (λ (p : Plain ring64). HoldsDense p c.finish_dense.new.values) plain
    (c.finish_dense.ensures.written (sym same ∙ ap (to_z w32) c.if-finish_dense-eq0.true))

pub returns-then-finish_dense-eq0-clause-rest : goal.returns-then-finish_dense-eq0-clause-rest
returns-then-finish_dense-eq0-clause-rest c =
    let same : to_z w32 (of_z w32 c.finish_dense.result) ≡ c.finish_dense.result = search rules in
    let a = plain_of_rows-held c.args.a.now.value _ _ c.in_ok-a.ensures.value c.deref.ensures in
    let plain = c.in_ok-product.ensures.plain
    ∙ ap (λ (p : Plain ring64). dense_product p c.args.cols c.args.b.now) a in
    subst (λ (p : Plain ring64). KeepsBehind (p.rows * p.cols) c.args.values.now
    c.finish_dense.new.values) plain
    (c.finish_dense.ensures.rest (sym same ∙ ap (to_z w32) c.if-finish_dense-eq0.true))

pub returns-then-finish_dense-eq0-clause-sized : goal.returns-then-finish_dense-eq0-clause-sized
returns-then-finish_dense-eq0-clause-sized c =
    let a = plain_of_rows-held c.args.a.now.value _ _ c.in_ok-a.ensures.value c.deref.ensures in
    c.in_ok-product.ensures.sized ∙ ap (λ (p : Plain ring64). p.cols * c.args.cols) a

pub returns-clause-fault : goal.returns-clause-fault
returns-clause-fault c =
    let a = plain_of_rows-held c.args.a.now.value _ _ c.in_ok-a.ensures.value c.deref.ensures in
    let plain = c.in_ok-product.ensures.plain
    ∙ ap (λ (p : Plain ring64). dense_product p c.args.cols c.args.b.now) a in
    let small = c.finish_dense.ensures.refused (λ e. c.if-finish_dense-eq0.false (ap (of_z w32) e)) in
    inr (inr (inr (
      c.in_ok-product.ensures.sized ∙ ap (λ (p : Plain ring64). p.cols * c.args.cols) a,
      refl,
      subst (λ (p : Plain ring64). length c.args.values.now < p.rows * p.cols) plain small.1,
    )))
