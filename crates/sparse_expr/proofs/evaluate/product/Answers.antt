use Rattle.std.proofs.Common.{sym, subst}
use Rattle.sparse_expr.specs.InnerTransposed.{rows_or_transposed}
use Rattle.sparse_expr.specs.Value.{Meets, product_of}
use Rattle.sparse_expr.proofs.Values.{product_transposed}
use Rattle.sparse_expr.proofs.evaluate.product.Goals as goal

pub returns-then-transposed : goal.returns-then-transposed
returns-then-transposed g c =
    let R = g.T.Ring.ring in
    let f = g.T.Ring.value in
    subst (λ b. Meets R (λ m. rows_or_transposed R f b m.value)
    (product_of R (rows_or_transposed R f b c.args.x.value) (rows_or_transposed R f b c.args.y.value))
    c.multiply.result)
    (sym c.if-transposed.true)
    (product_transposed R f (λ m. m.value) c.args.x.value c.args.y.value c.multiply.result
    c.multiply.ensures)
