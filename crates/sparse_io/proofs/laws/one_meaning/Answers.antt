use Rattle.sparse_io.proofs.OneMeaning.{means_one}
use Rattle.sparse_io.proofs.laws.one_meaning.Goals as goal

pub returns : goal.returns
returns g c = means_one g.T.MatrixMarketScalar.scalar
