use Rattle.sparse_algebra.proofs.PlainLaws.{product_associative}
use Rattle.sparse_algebra.proofs.laws.product_associative_law.Goals as goal

pub returns : goal.returns
returns g c = product_associative g.T.Ring.ring
