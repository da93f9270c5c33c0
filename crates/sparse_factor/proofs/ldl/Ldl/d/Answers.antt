use Rattle.std.proofs.Common.{subst}
use Rattle.sparse_factor.specs.Factors.{HavePivots}
use Rattle.sparse_factor.proofs.ldl.Ldl.d.Goals as goal

pub returns-clause-pivots : goal.returns-clause-pivots
returns-clause-pivots g c =
    subst (λ s. HavePivots g.T.Ring.ring g.T.Ring.value g.T.Zero.zero_value s.d) c.self.view_is
    c.self.invariant.0.pivots
