use Rattle.std.proofs.Common.{ap, ◌∙◌}
use Rattle.std.proofs.lemmas.List.{get_or_default}
use Rattle.sparse_dense_ops.proofs.ColumnUpdates.{written_at}
use Rattle.sparse_dense_ops.proofs.solve.backward.solve_row.Goals as goal

pub returns : goal.returns
returns g c =
    let R = g.T.Ring.ring in
    let f = g.T.Ring.value in
    let read = c.index-x-k.result in
    written_at c.mul.result c.requires
    (c.mul.ensures ∙ ap (λ v. R.mul v (f c.args.inverse)) (c.add.ensures
    ∙ ap (R.add (f read)) c.neg.ensures
    ∙ ap (λ v. R.add (f v) (R.neg (f c.args.known))) (c.index-x-k.is
    ∙ get_or_default c.args.x.now c.args.k read g.T.Zero.zero_value c.requires)))
