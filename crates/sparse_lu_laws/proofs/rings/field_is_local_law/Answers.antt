use Rattle.sparse_lu_laws.proofs.LocalRings.{field-local}
use Rattle.sparse_lu_laws.proofs.rings.field_is_local_law.Goals as goal

pub returns : goal.returns
returns g c = field-local g.T.Ring.ring g.T.Ring.value
