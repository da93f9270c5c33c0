use Rattle.std.proofs.Common.{length, ap, ◌∙◌}
use Rattle.std.proofs.lemmas.Result.{IfOk-weaker}
use Rattle.mtxkit_matrices.proofs.SingularPivots.{length_below}
use Rattle.mtxkit_matrices.proofs.orders.permutation_by.Goals as goal

pub returns-in-Natural-clause-count : goal.returns-in-Natural-clause-count
returns-in-Natural-clause-count c =
    IfOk-weaker c.identity.result _ _
    (λ p is. ap length is ∙ length_below c.major_dim.result ∙ c.major_dim.ensures) c.identity.ensures
