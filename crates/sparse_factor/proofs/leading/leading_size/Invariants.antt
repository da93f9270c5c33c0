use Rattle.std.proofs.Common.{◌-◌}
use Rattle.sparse_coo_dense.specs.CooPlain.{plain_of_coo}
use Rattle.sparse_factor.specs.Factorisations.{plain_symmetric}
use Rattle.sparse_factor.specs.InnerLeadingBlocks.{IsBetween}
use Rattle.sparse_factor.proofs.leading.leading_size.Given as goal

abbrev pub invariant-loop-range : goal.invariant-loop-range
invariant-loop-range g l = IsBetween g.T.Ring.ring g.T.Ring.value
    (plain_symmetric g.T.Ring.ring (plain_of_coo g.T.Ring.ring g.T.Ring.value l.a)) l.range.0 l.range.1

abbrev pub decreases-loop-range : goal.decreases-loop-range
decreases-loop-range g l = l.range.1 - l.range.0
