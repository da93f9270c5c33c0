use Rattle.std.proofs.Common.{◌≡◌, subst}
use Rattle.std.specs.Prelude.{IfOk}
use Rattle.sparse_algebra.specs.Plain.{Plain, plain_product}
use Rattle.sparse_compressed.specs.PlainOfLanes.{plain_of_rows}
use Rattle.mtxkit_matrices.proofs.solutions.product.Goals as goal

pub returns : goal.returns
returns g c =
    let R = g.T.Ring.ring in
    let f = g.T.Ring.value in
    subst (λ (p : Plain R × Plain R). IfOk c.mul_csr.result
    (λ m. plain_of_rows R f m ≡ plain_product R p.0 p.1))
    (λ k. (c.in_ok-rows.ensures.plain k, c.in_ok-solution.ensures.plain k)) c.mul_csr.ensures
