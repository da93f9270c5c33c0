use Rattle.sparse_compressed.proofs.KeptPlain.{kept_rows}
use Rattle.sparse_compressed.proofs.laws.kept_rows_law.Goals as goal

pub returns : goal.returns
returns g c = λ test m n same_shape kept. kept_rows g.T.Ring.ring g.T.Ring.value test m n same_shape kept
