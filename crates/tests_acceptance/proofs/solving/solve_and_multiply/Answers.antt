use Rattle.std.proofs.Common.{ap, sym, ◌∙◌}
use Rattle.nalgebra_sparse.specs.DensePlain.{plain_full, plain_of_dense}
use Rattle.nalgebra_sparse.specs.Plain.{plain_product}
use Rattle.tests_acceptance.proofs.solving.solve_and_multiply.Goals as goal

pub returns : goal.returns
returns g c =
    let R = g.T.Ring.ring in
    let x = plain_of_dense R g.T.Ring.value c.spsolve_csc_lower_triangular.new.b in
    c.in_ok-mul_csc_dense.ensures ∙ ap (λ l. plain_full R (plain_product R l x))
    (sym c.requires.lower)
    ∙ c.in_ok-spsolve_csc_lower_triangular.ensures.solved
