use Rattle.sparse_algebra.proofs.PlainLaws.{product-sum, sum-product}
use Rattle.sparse_algebra.proofs.laws.product_distributes_law.Goals as goal

pub returns-clause-right : goal.returns-clause-right
returns-clause-right g c = product-sum g.T.Ring.ring

pub returns-clause-left : goal.returns-clause-left
returns-clause-left g c = sum-product g.T.Ring.ring
