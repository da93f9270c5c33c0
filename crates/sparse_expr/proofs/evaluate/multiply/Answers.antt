use Rattle.std.proofs.Common.{arith, ap, ◌∙◌}
use Rattle.sparse_algebra.specs.Plain.{plain_product}
use Rattle.sparse_compressed.specs.PlainOfLanes.{plain_of_rows}
use Rattle.sparse_expr.proofs.Values.{product_met}
use Rattle.sparse_expr.proofs.evaluate.multiply.Goals as goal

pub returns : goal.returns
returns g c =
    let R = g.T.Ring.ring in
    let f = g.T.Ring.value in
    product_met R (plain_of_rows R f c.args.x.value) (plain_of_rows R f c.args.y.value) _
    (omega (
      arith,
      c.if-ncols-nrows.false,
      c.ncols.ensures,
      c.nrows.ensures,
      ap (λ m. m.pattern.minor_dim) c.deref.ensures,
      ap (λ m. m.pattern.major_dim) c.deref-2.ensures,
    ))
    (ap (plain_of_rows R f) c.in_ok-new.ensures.ok ∙ c.in_ok-mul_csr.ensures
    ∙ ap (λ m. plain_product R (plain_of_rows R f m) (plain_of_rows R f c.as_ref-2.result.now))
    c.as_ref.ensures
    ∙ ap (λ m. plain_product R (plain_of_rows R f c.args.x.value) (plain_of_rows R f m))
    c.as_ref-2.ensures)
