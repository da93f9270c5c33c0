use Rattle.std.proofs.Common.{ap, subst, ◌∙◌}
use Rattle.std.specs.Prelude.{IfOk}
use Rattle.sparse_algebra.specs.Plain.{Plain}
use Rattle.sparse_coo_dense.specs.CooPlain.{plain_of_coo}
use Rattle.sparse_factor.specs.Factorisations.{plain_symmetric}
use Rattle.sparse_factor.specs.LeadingBlocks.{StopsAt}
use Rattle.sparse_convert.proofs.MatrixLists.{columns-list}
use Rattle.sparse_factor.proofs.ldl.Ldl.factored_size.Goals as goal

pub returns : goal.returns
returns g c =
    let R = g.T.Ring.ring in
    let f = g.T.Ring.value in
    subst (λ (p : Plain R). IfOk c.leading_size.result (StopsAt R f (plain_symmetric R p)))
    (ap (plain_of_coo R f) c.in_ok-list.ensures ∙ columns-list R f c.args.a.now)
    c.leading_size.ensures
