use Rattle.std.proofs.Common.{ap, map, sym, ◌∙◌}
use Rattle.mtxkit_eval.specs.Extents.{capped, matrix_extent, product_extent, extent_of}
use Rattle.mtxkit_eval.proofs.Caps.{capped-product}
use Rattle.mtxkit_eval.proofs.extents.+expression_extent.Goals as goal

pub returns-in-Mul : goal.returns-in-Mul
returns-in-Mul t c =
    let value = extent_of (map matrix_extent c.args.inputs.now) in
    let a = c.expression_extent.ensures ∙ ap (λ e. capped (value e)) c.deref.ensures in
    let b = c.expression_extent-in-Mul.ensures ∙ ap (λ e. capped (value e)) c.deref-in-Mul.ensures in
    c.product_extent.ensures
    ∙ ap (λ x. capped (product_extent x c.expression_extent-in-Mul.result)) a
    ∙ ap (λ y. capped (product_extent (capped (value c.in-Mul.a.value)) y)) b
    ∙ capped-product (value c.in-Mul.a.value) (value c.in-Mul.b.value)
    ∙ sym (ap (λ e. capped (value e)) c.in-Mul.is)
