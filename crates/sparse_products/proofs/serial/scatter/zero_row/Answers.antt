use Rattle.std.proofs.Common.{ap, ◌∙◌}
use Rattle.sparse_products.proofs.LaneParts.{all_zero}
use Rattle.sparse_products.proofs.serial.scatter.zero_row.Goals as goal

pub returns-clause-zero : goal.returns-clause-zero
returns-clause-zero g c = all_zero g.T.Ring.value g.T.Ring.ring.zero g.T.Zero.zero_value
    c.zero.result g.met.T.Ring.zero_law (ap g.T.Ring.value c.zero.ensures
    ∙ g.met.T.Ring.zero_law) _ _ _ _ c.new-row.ensures.items c.in_ok-resize.ensures.items
