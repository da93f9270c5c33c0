use Rattle.sparse_rings.proofs.RingMaps.{constant-map}
use Rattle.sparse_rings.proofs.laws.dual_law.Goals as goal

pub returns-clause-constant : goal.returns-clause-constant
returns-clause-constant g c = constant-map g.T.Ring.ring
