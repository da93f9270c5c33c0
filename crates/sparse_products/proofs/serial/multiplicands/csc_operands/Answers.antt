use Rattle.std.proofs.Common.{ap, sym, ◌∙◌}
use Rattle.sparse_algebra.specs.Plain.{Plain, plain_transpose}
use Rattle.sparse_algebra.proofs.PlainLemmas.{transpose_product}
use Rattle.sparse_algebra.proofs.PlainLaws.{transpose_twice}
use Rattle.sparse_compressed.specs.PlainOfLanes.{plain_of_rows}
use Rattle.sparse_products.specs.InnerOperands.{matrix_of}
use Rattle.sparse_products.proofs.Updating.{product_same}
use Rattle.sparse_products.proofs.serial.multiplicands.csc_operands.Goals as goal

pub returns-clause-product : goal.returns-clause-product
returns-clause-product g c =
    let R = g.T.Ring.ring in
    let f = g.T.Ring.value in
    let first = c.in_ok-a.ensures.plain in
    let second = c.in_ok-b.ensures.plain in
    let fits = ap (λ (p : Plain R). p.rows) second ∙ sym c.requires
    ∙ sym (ap (λ (p : Plain R). p.cols) first) in
    record {
      inner = fits;
      product = sym (transpose_twice R _) ∙ ap (plain_transpose R)
          (transpose_product R (plain_of_rows R f (matrix_of c.in_ok-b.b))
          (plain_of_rows R f (matrix_of c.in_ok-a.a)) fits ∙ product_same R first second);
    }
