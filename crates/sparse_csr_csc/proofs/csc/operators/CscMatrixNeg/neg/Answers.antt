use Rattle.std.proofs.Common.{ap, ◌∙◌}
use Rattle.sparse_algebra.specs.Plain.{plain_negation, plain_transpose}
use Rattle.sparse_compressed.specs.PlainOfLanes.{plain_of_cols}
use Rattle.sparse_csr_csc.proofs.csc.operators.CscMatrixNeg.neg.Goals as goal

pub returns : goal.returns
returns g c = ap (plain_transpose g.T.Ring.ring) c.negate.ensures.values
    ∙ ap (λ m. plain_negation g.T.Ring.ring (plain_of_cols g.T.Ring.ring g.T.Ring.value m))
    c.self.view_is
