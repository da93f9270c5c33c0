use Rattle.sparse_compressed.proofs.KeptPlain.{kept_cols}
use Rattle.sparse_compressed.proofs.laws.kept_cols_law.Goals as goal

pub returns : goal.returns
returns g c = λ test m n same_shape kept. kept_cols g.T.Ring.ring g.T.Ring.value test m n same_shape kept
