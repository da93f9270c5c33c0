use Rattle.std.proofs.Common.{◌≡◌, ◌+◌, ◌*◌, get_or, ap, sym, ◌∙◌, arith}
use Rattle.std.proofs.lemmas.Nat.{mul-add-lt}
use Rattle.sparse_dense_ops.proofs.Operands.{from_start}
use Rattle.sparse_dense_ops.proofs.DenseValues.{dense_inside}
use Rattle.sparse_dense_ops.proofs.products.operand.column_of.Goals as goal

pub returns-in-NoOp-clause-entries : goal.returns-in-NoOp-clause-entries
returns-in-NoOp-clause-entries g c =
    let f = g.T.Ring.value in
    let z = g.T.Zero.zero_value in
    let col = rw c.in-NoOp.is at c.requires in
    rw c.in-NoOp.is (λ k lt.
    let one : k * 1 ≡ k = omega arith in
    ap (λ p. f (get_or c.column.result.now p z)) one ∙ ap f (c.column.ensures.values k z lt)
    ∙ sym (dense_inside g.T.Ring.ring f z g.met.T.Ring.zero_law c.in-NoOp.b.now k c.args.j lt col))

pub returns-in-Transpose-clause-entries : goal.returns-in-Transpose-clause-entries
returns-in-Transpose-clause-entries g c =
    let f = g.T.Ring.value in
    let z = g.T.Zero.zero_value in
    let d = c.in-Transpose.b.now in
    let row = rw c.in-Transpose.is at c.requires in
    rw c.in-Transpose.is (λ k lt.
    let start : c.min.result ≡ c.args.j = omega (
      arith,
      c.min.ensures,
      c.as_slice-values.ensures.count,
      mul-add-lt k d.nrows c.args.j d.ncols lt row,
    ) in
    ap f (from_start c.as_slice-values.result.now d.nrows c.args.j k c.min.result z start
    ∙ ap (λ vs. get_or vs (k * d.nrows + c.args.j) z) c.as_slice-values.ensures.values)
    ∙ sym (dense_inside g.T.Ring.ring f z g.met.T.Ring.zero_law d c.args.j k row lt))
