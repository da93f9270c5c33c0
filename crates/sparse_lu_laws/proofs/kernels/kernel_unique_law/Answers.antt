use Rattle.sparse_lu_laws.proofs.Combinations.{kernel_combination}
use Rattle.sparse_lu_laws.proofs.kernels.kernel_unique_law.Goals as goal

pub returns : goal.returns
returns g c = kernel_combination g.T.Ring.ring
