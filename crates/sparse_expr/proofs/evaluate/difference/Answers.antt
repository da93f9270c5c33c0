use Rattle.std.proofs.Common.{arith, ap, ◌∙◌}
use Rattle.sparse_algebra.specs.Plain.{plain_difference}
use Rattle.sparse_compressed.specs.PlainOfLanes.{plain_of_rows}
use Rattle.sparse_expr.proofs.Values.{difference_met}
use Rattle.sparse_expr.proofs.evaluate.difference.Goals as goal

pub returns : goal.returns
returns g c = λ transposed.
    let R = g.T.Ring.ring in
    let f = g.T.Ring.value in
    difference_met R f transposed c.args.x.value c.args.y.value c.in_ok-new.field-0.value
    (omega (
      arith,
      c.if-nrows.false,
      c.nrows.ensures,
      c.nrows-2.ensures,
      ap (λ m. m.pattern.major_dim) c.deref.ensures,
      ap (λ m. m.pattern.major_dim) c.deref-2.ensures,
    ))
    (omega (
      arith,
      c.if-ncols.false,
      c.ncols.ensures,
      c.ncols-else-nrows.ensures,
      ap (λ m. m.pattern.minor_dim) c.deref-else-nrows.ensures,
      ap (λ m. m.pattern.minor_dim) c.deref-else-nrows-2.ensures,
    ))
    (ap (plain_of_rows R f) c.in_ok-new.ensures.ok ∙ c.in_ok-sub_csr.ensures
    ∙ ap (λ m. plain_difference R (plain_of_rows R f m) (plain_of_rows R f c.as_ref-2.result.now))
    c.as_ref.ensures
    ∙ ap (λ m. plain_difference R (plain_of_rows R f c.args.x.value) (plain_of_rows R f m))
    c.as_ref-2.ensures)
