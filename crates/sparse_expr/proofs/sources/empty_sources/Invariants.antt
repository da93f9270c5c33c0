use Rattle.std.proofs.Common.{take}
use Rattle.std.specs.List.{AllZip}
use Rattle.sparse_expr.specs.InnerSources.{Provides}
use Rattle.sparse_expr.proofs.sources.empty_sources.Given as goal

abbrev pub invariant-loop-input : goal.invariant-loop-input
invariant-loop-input g l =
    AllZip (Provides g.T.Ring.ring g.T.Ring.value) (take l._input-index l.inputs) l.sources.items
