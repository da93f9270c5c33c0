use Rattle.std.proofs.Common.{◌∙◌}
use Rattle.sparse_algebra.specs.Plain.{plain_product}
use Rattle.sparse_coo_dense.specs.DensePlain.{plain_full}
use Rattle.sparse_c.proofs.operations.dense.dense_product.Goals as goal

pub returns-clause-plain : goal.returns-clause-plain
returns-clause-plain g c =
    let R = g.T.Ring.ring in
    c.in_ok-mul_csr_dense.ensures ∙ (λ k. plain_full R
    (plain_product R (c.in_ok-a.ensures.plain k) (c.in_ok-b.ensures.plain k)))
