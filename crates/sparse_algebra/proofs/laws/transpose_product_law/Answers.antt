use Rattle.sparse_algebra.proofs.PlainLemmas.{transpose_product}
use Rattle.sparse_algebra.proofs.laws.transpose_product_law.Goals as goal

pub returns : goal.returns
returns g c = transpose_product g.T.Ring.ring
