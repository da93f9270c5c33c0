use Rattle.std.proofs.Common.{ap, sym, ◌∙◌}
use Rattle.sparse_algebra.specs.Plain.{Plain}
use Rattle.sparse_products.proofs.Updating.{if_both, product_same}
use Rattle.sparse_products.proofs.serial.multiplicands.csr_operands.Goals as goal

pub returns-clause-product : goal.returns-clause-product
returns-clause-product g c =
    let R = g.T.Ring.ring in
    let first = c.in_ok-a.ensures.plain in
    let second = c.in_ok-b.ensures.plain in
    record {
      inner = ap (λ (p : Plain R). p.cols) first ∙ c.requires
          ∙ sym (ap (λ (p : Plain R). p.rows) second);
      product = product_same R first second;
    }

pub returns-clause-borrowed : goal.returns-clause-borrowed
returns-clause-borrowed g c =
    if_both c.args.a c.args.b _ _ c.in_ok-a.ensures.borrowed c.in_ok-b.ensures.borrowed
