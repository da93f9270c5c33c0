use Rattle.std.proofs.Common.{◌≡◌, subst}
use Rattle.std.specs.Prelude.{IfOk}
use Rattle.sparse_algebra.specs.Plain.{Plain, plain_sum}
use Rattle.sparse_compressed.specs.PlainOfLanes.{plain_of_rows}
use Rattle.sparse_sums.proofs.scaled.add_scaled_csr.Goals as goal

pub returns : goal.returns
returns g c =
    let R = g.T.Ring.ring in
    subst (λ (p : Plain R × Plain R). IfOk c.add_csr.result
    (λ m. plain_of_rows R g.T.Ring.value m ≡ plain_sum R p.0 p.1))
    (λ k. (c.in_ok-first.ensures k, c.in_ok-second.ensures k)) c.add_csr.ensures
