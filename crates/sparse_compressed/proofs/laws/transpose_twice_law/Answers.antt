use Rattle.sparse_compressed.proofs.MatrixTransposes.{twice}
use Rattle.sparse_compressed.proofs.laws.transpose_twice_law.Goals as goal

pub returns : goal.returns
returns g c = twice
