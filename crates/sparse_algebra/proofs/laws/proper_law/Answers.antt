use Rattle.sparse_algebra.proofs.PlainLemmas.{proper_product}
use Rattle.sparse_algebra.proofs.PlainLaws.{proper_plain_of_triplets, proper_scaled}
use Rattle.sparse_algebra.proofs.laws.proper_law.Goals as goal

pub returns-clause-triplets : goal.returns-clause-triplets
returns-clause-triplets g c = proper_plain_of_triplets g.T.Ring.ring g.T.Ring.value

pub returns-clause-scaled : goal.returns-clause-scaled
returns-clause-scaled g c = proper_scaled g.T.Ring.ring

pub returns-clause-product : goal.returns-clause-product
returns-clause-product g c = proper_product g.T.Ring.ring
