use Rattle.sparse_compressed.proofs.MatrixTransposes.{one_transpose}
use Rattle.sparse_compressed.proofs.laws.one_transpose_law.Goals as goal

pub returns : goal.returns
returns g c = one_transpose
