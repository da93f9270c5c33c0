use Rattle.std.proofs.Common.{ap, ◌∙◌}
use Rattle.sparse_algebra.specs.Plain.{plain_scaled, plain_transpose}
use Rattle.sparse_compressed.specs.PlainOfLanes.{plain_of_cols}
use Rattle.sparse_csr_csc.proofs.csc.operators.CscMatrixMulAssign.mul_assign.Goals as goal

pub returns : goal.returns
returns g c = record {
  after = ap (plain_transpose g.T.Ring.ring) c.scale.ensures.values
      ∙ ap (λ m. plain_scaled g.T.Ring.ring (g.T.Ring.value c.args.coefficient)
      (plain_of_cols g.T.Ring.ring g.T.Ring.value m)) c.self.view_is;
}
