use Rattle.std.proofs.Common.{refl}
use Rattle.sparse_algebra.proofs.PlainLaws.{identity-product, product-identity}
use Rattle.sparse_algebra.proofs.laws.identity_product_law.Goals as goal

pub returns-clause-left : goal.returns-clause-left
returns-clause-left g c = λ a. identity-product g.T.Ring.ring a.rows a refl

pub returns-clause-right : goal.returns-clause-right
returns-clause-right g c = λ a. product-identity g.T.Ring.ring a.cols a refl
