use Rattle.std.proofs.Common.{◌≡◌}
use Rattle.sparse_algebra.specs.InnerNewton.{squared, one_minus}
use Rattle.sparse_algebra.proofs.scalar.newton.newton_inverse.Given as goal

abbrev pub invariant-loop-step : goal.invariant-loop-step
invariant-loop-step g l =
    let T = g.T.Ring in
    record {
      steps : T.value l.residual ≡ squared T.ring l._step (one_minus T.ring (T.value l.fn.x));
      rest : one_minus T.ring (T.ring.mul (T.value l.fn.x) (T.value l.inverse)) ≡ T.value l.residual;
    }
