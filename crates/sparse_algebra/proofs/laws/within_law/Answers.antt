use Rattle.sparse_algebra.proofs.PlainLaws.{within_plain_of_triplets, within_product}
use Rattle.sparse_algebra.proofs.laws.within_law.Goals as goal

pub returns-clause-triplets : goal.returns-clause-triplets
returns-clause-triplets g c = within_plain_of_triplets g.T.Ring.ring g.T.Ring.value

pub returns-clause-product : goal.returns-clause-product
returns-clause-product g c = within_product g.T.Ring.ring
