use Rattle.sparse_lu_laws.proofs.Inverses.{left_inverse}
use Rattle.sparse_lu_laws.proofs.systems.inverse_law.Goals as goal

pub returns : goal.returns
returns g c = λ a l u x p q lu. left_inverse g.T.Ring.ring g.T.Ring.value lu x
