use Rattle.std.proofs.Common.{ap, sym, ◌∙◌, length}
use Rattle.sparse_factor.proofs.ordered.whole.permuted_rows.Goals as goal

pub returns-in-Ok-clause-plain : goal.returns-in-Ok-clause-plain
returns-in-Ok-clause-plain g c =
    c.dense_rows_law.ensures c.args.permutation.now c.args.b.now c.in-Ok.moved c.order.ensures.valid
    c.requires.rows (ap length (sym c.as_slice.ensures.values) ∙ c.as_slice.ensures.count)
    c.in-Ok.ensures.rows
