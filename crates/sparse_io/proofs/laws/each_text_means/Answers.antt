use Rattle.sparse_parser.specs.InnerReading.{read}
use Rattle.sparse_io.proofs.OneMeaning.{read_means}
use Rattle.sparse_io.proofs.laws.each_text_means.Goals as goal

pub returns : goal.returns
returns g c = λ text. (
  read g.T.MatrixMarketScalar.scalar text,
  read_means g.T.MatrixMarketScalar.scalar text,
)
