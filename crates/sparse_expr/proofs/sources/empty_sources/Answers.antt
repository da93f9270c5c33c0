use Rattle.std.proofs.Common.{subst}
use Rattle.std.specs.List.{AllZip}
use Rattle.std.proofs.lemmas.List.{take_all}
use Rattle.sparse_expr.specs.InnerSources.{Provides}
use Rattle.sparse_expr.proofs.Joined.{AllZip-more}
use Rattle.sparse_expr.proofs.sources.empty_sources.Goals as goal

pub loop-input-preserved : goal.loop-input-preserved
loop-input-preserved g c =
    AllZip-more (Provides g.T.Ring.ring g.T.Ring.value) c.args.inputs.now c.loop-input.sources.items
    _ c.loop-input._input-index c._input-item.result _ c.loop-input-test.true
    c.loop-input.invariant c.in_ok-push.ensures.items
    (record { rows = tt; transposed = tt })

pub returns : goal.returns
returns g c =
    record {
      provides = subst (λ l. AllZip (Provides g.T.Ring.ring g.T.Ring.value) l
          c.loop-input.sources.items) (take_all c.loop-input._input-index c.args.inputs.now
          c.loop-input-test.false) c.loop-input.invariant;
    }
