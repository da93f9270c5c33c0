use Rattle.std.proofs.Common.{subst}
use Rattle.sparse_algebra.specs.Plain.{Plain}
use Rattle.sparse_factor.specs.Factorisations.{plain_symmetric}
use Rattle.sparse_factor.specs.LeadingBlocks.{StopsAt}
use Rattle.sparse_c.proofs.systems.pivot.pivot_of.Goals as goal

pub returns-clause-found : goal.returns-clause-found
returns-clause-found g c =
    let R = g.T.Ring.ring in
    let f = g.T.Ring.value in
    subst (λ (p : Plain R). StopsAt R f (plain_symmetric R p) c.in_ok-factored_size.field-0)
    c.in_ok-columns.ensures.plain c.in_ok-factored_size.ensures
