use Rattle.std.proofs.Common.{ap}
use Rattle.sparse_algebra.specs.Plain.{plain_transpose}
use Rattle.sparse_compressed.proofs.MatrixTransposes.{plain_transposed}
use Rattle.sparse_compressed.proofs.laws.transpose_law.Goals as goal

pub returns-clause-rows : goal.returns-clause-rows
returns-clause-rows g c = plain_transposed g.T.Ring.ring g.T.Ring.value g.T.Zero.zero_value

pub returns-clause-cols : goal.returns-clause-cols
returns-clause-cols g c = λ m n sm sn h. ap (plain_transpose g.T.Ring.ring)
    (plain_transposed g.T.Ring.ring g.T.Ring.value g.T.Zero.zero_value m n sm sn h)
