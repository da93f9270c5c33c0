use Rattle.std.proofs.Common.{◌∙◌, ap}
use Rattle.sparse_algebra.specs.Plain.{plain_scaled}
use Rattle.sparse_compressed.specs.PlainOfLanes.{plain_of_cols}
use Rattle.sparse_dense_ops.proofs.division.csc.div_scalar_csc.Goals as goal

pub returns-clause-quotient : goal.returns-clause-quotient
returns-clause-quotient g c =
    let R = g.T.Ring.ring in
    let f = g.T.Ring.value in
    let inverse = c.in_ok-inverse.inverse in (
      inverse,
      c.in_ok-inverse.ensures.inverse,
      c.mul_assign.ensures.after
          ∙ ap (λ m. plain_scaled R (f inverse) (plain_of_cols R f m)) c.in_ok-quotient.ensures,
    )
