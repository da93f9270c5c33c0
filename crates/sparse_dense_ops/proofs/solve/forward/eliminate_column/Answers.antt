use Rattle.sparse_dense_ops.proofs.Elimination.{eliminated}
use Rattle.sparse_dense_ops.proofs.solve.forward.eliminate_column.Goals as goal

pub returns : goal.returns
returns g c = eliminated g.T.Zero.zero_value c.args.x.now c.usaxpy.new.y c.divide_entry.result
    c.requires.row c.requires.above c.divide_entry.ensures.value c.neg-scale.ensures
    (rw c.divide_entry.ensures.written at c.usaxpy.ensures)
