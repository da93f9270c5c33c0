use Rattle.sparse_factor.proofs.LeastFill.{triangle_same}
use Rattle.sparse_factor.proofs.laws.least_fill_law.Goals as goal

pub returns : goal.returns
returns c = triangle_same
