use Rattle.std.proofs.Common.{ap, ◌∙◌}
use Rattle.sparse_algebra.specs.Plain.{plain_transpose}
use Rattle.sparse_algebra.proofs.PlainLaws.{transpose_identity}
use Rattle.sparse_csr_csc.proofs.csc.CscMatrix.identity.Goals as goal

pub returns-clause-plain : goal.returns-clause-plain
returns-clause-plain g c = ap (plain_transpose g.T.Ring.ring) c.in_ok-identity.ensures.plain
    ∙ transpose_identity g.T.Ring.ring c.args.n
