use Rattle.std.proofs.Common.{ap}
use Rattle.sparse_algebra.specs.Plain.{plain_transpose}
use Rattle.sparse_compressed.proofs.MatrixTransposes.{plain_transposed}
use Rattle.sparse_compressed.proofs.laws.other_form_law.Goals as goal

pub returns-clause-rows_to_cols : goal.returns-clause-rows_to_cols
returns-clause-rows_to_cols g c = λ m n sm sn h. ap (plain_transpose g.T.Ring.ring)
    (plain_transposed g.T.Ring.ring g.T.Ring.value g.T.Zero.zero_value m n sm sn h)

pub returns-clause-cols_to_rows : goal.returns-clause-cols_to_rows
returns-clause-cols_to_rows g c = plain_transposed g.T.Ring.ring g.T.Ring.value g.T.Zero.zero_value
