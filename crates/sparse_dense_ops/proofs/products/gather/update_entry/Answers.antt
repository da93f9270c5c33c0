use Rattle.std.proofs.Common.{ap, ◌∙◌}
use Rattle.std.proofs.lemmas.List.{get_or_default}
use Rattle.sparse_dense_ops.specs.InnerUpdates.{updated}
use Rattle.sparse_dense_ops.proofs.ColumnUpdates.{written_at}
use Rattle.sparse_dense_ops.proofs.products.gather.update_entry.Goals as goal

pub returns : goal.returns
returns g c =
    let R = g.T.Ring.ring in
    let f = g.T.Ring.value in
    let beta = f c.args.beta in
    let read = c.index-c-i.result in
    written_at c.add.result c.requires
    (c.add.ensures ∙ ap (λ v. R.add v (f c.mul-2.result)) c.mul.ensures
    ∙ ap (R.add (R.mul beta (f read))) c.mul-2.ensures
    ∙ ap (λ v. updated R f beta (f c.args.alpha) v (f c.args.sum)) (c.index-c-i.is
    ∙ get_or_default c.args.c.now c.args.i read g.T.Zero.zero_value c.requires))
