use Rattle.sparse_expr.specs.InnerSources.{Provides}
use Rattle.sparse_expr.proofs.Joined.{AllZip-change}
use Rattle.sparse_expr.proofs.sources.count_use.Goals as goal

pub returns-then-transposed : goal.returns-then-transposed
returns-then-transposed g c =
    let R = g.T.Ring.ring in
    let f = g.T.Ring.value in
    record {
      provides = λ inputs all. AllZip-change (Provides R f) inputs c.args.sources.now _
          c.index-sources-number.result _
          (λ x p. record { rows = p.rows; transposed = p.transposed }) all;
    }

pub returns-else-transposed : goal.returns-else-transposed
returns-else-transposed g c =
    let R = g.T.Ring.ring in
    let f = g.T.Ring.value in
    record {
      provides = λ inputs all. AllZip-change (Provides R f) inputs c.args.sources.now _
          c.index-sources-number.result _
          (λ x p. record { rows = p.rows; transposed = p.transposed }) all;
    }
