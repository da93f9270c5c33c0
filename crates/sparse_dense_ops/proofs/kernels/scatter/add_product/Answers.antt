use Rattle.std.proofs.Common.{get_or, ap, ◌∙◌}
use Rattle.std.proofs.lemmas.List.{get_or_default}
use Rattle.sparse_dense_ops.proofs.ColumnUpdates.{written_at}
use Rattle.sparse_dense_ops.proofs.kernels.scatter.add_product.Goals as goal

pub returns : goal.returns
returns g c =
    let R = g.T.Ring.ring in
    let f = g.T.Ring.value in
    let row = c.args.row.now in
    let at = c.args.index in
    let read = c.index-row-index.result in
    written_at c.add.result c.requires
    (c.add.ensures ∙ ap (R.add (f (get_or row at read))) c.mul.ensures
    ∙ ap (λ v. R.add (f v) (R.mul (f c.args.scale) (f c.args.value)))
    (get_or_default row at read g.T.Zero.zero_value c.requires))
