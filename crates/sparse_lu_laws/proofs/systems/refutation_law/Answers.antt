use Rattle.sparse_lu_laws.proofs.Refutations.{refutation-solution}
use Rattle.sparse_lu_laws.proofs.systems.refutation_law.Goals as goal

pub returns : goal.returns
returns g c = refutation-solution g.T.Ring.ring
