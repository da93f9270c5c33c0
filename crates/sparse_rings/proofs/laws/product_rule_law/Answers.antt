use Rattle.sparse_rings.proofs.RingMaps.{product-derivative}
use Rattle.sparse_rings.proofs.laws.product_rule_law.Goals as goal

pub returns : goal.returns
returns g c = product-derivative g.T.Ring.ring
