use Rattle.sparse_algebra.proofs.PlainLemmas.{plain_of_triplets-permuted}
use Rattle.sparse_algebra.proofs.laws.order_law.Goals as goal

pub returns : goal.returns
returns g c = plain_of_triplets-permuted g.T.Ring.ring g.T.Ring.value
