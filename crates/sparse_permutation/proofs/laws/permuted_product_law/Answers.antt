use Rattle.sparse_permutation.proofs.PermutedProducts.{permuted-product}
use Rattle.sparse_permutation.proofs.laws.permuted_product_law.Goals as goal

pub returns : goal.returns
returns g c = λ p a x order. permuted-product g.T.Ring.ring order a x
