use Rattle.std.proofs.Common.{subst}
use Rattle.std.specs.Prelude.{IfOk, MatchOption}
use Rattle.sparse_algebra.specs.Plain.{Plain}
use Rattle.mtxkit_matrices.specs.Differences.{IsFirstAsymmetry}
use Rattle.mtxkit_matrices.specs.Values.{IsSymmetricMatrix}
use Rattle.mtxkit_matrices.proofs.systems.asymmetry_of.Goals as goal

pub returns : goal.returns
returns g c =
    let R = g.T.Ring.ring in
    subst (λ (p : Plain R). IfOk c.first_asymmetry.result
    (λ found. MatchOption found (IsSymmetricMatrix R p)
    (λ at. IsFirstAsymmetry R p at.row at.col)))
    c.in_ok-rows.ensures.plain c.first_asymmetry.ensures
