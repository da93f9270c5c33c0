-- written by tools/answer-goals
use Rattle.std.proofs.Common.{rules}
use Rattle.sparse_coo_dense.proofs.coo.CooMatrix.clear_triplets.Goals as goal

pub invariant_of-self : goal.invariant_of-self
invariant_of-self g c = search rules
