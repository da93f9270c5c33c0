use Rattle.sparse_convert.proofs.DenseValues.{rows_represented, cols_represented}
use Rattle.sparse_convert.proofs.serial.to_dense.to_dense_law.Goals as goal

pub returns-clause-rows : goal.returns-clause-rows
returns-clause-rows g c = λ m d sound is. rows_represented g.T.Ring.ring g.T.Ring.value
    g.T.Zero.zero_value g.met.T.Ring.zero_law m sound d is

pub returns-clause-cols : goal.returns-clause-cols
returns-clause-cols g c = λ m d sound is. cols_represented g.T.Ring.ring g.T.Ring.value
    g.T.Zero.zero_value g.met.T.Ring.zero_law m sound d is
