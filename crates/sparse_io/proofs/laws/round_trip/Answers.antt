use Rattle.sparse_io.proofs.RoundTrip.{law}
use Rattle.sparse_io.proofs.laws.round_trip.Goals as goal

pub returns : goal.returns
returns g c = law g.T.MatrixMarketScalar.scalar
