use Rattle.sparse_products.proofs.Transposing.{rows_transposed}
use Rattle.sparse_products.proofs.serial.multiplicands.transposed.Goals as goal

pub returns : goal.returns
returns g c = rows_transposed g.T.Ring.ring g.T.Ring.value g.T.Zero.zero_value
    c.values.ensures.sound c.transpose.result c.transpose.ensures.transposed
    c.transpose.ensures.sound
