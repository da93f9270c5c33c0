use Rattle.std.proofs.Common.{ap, ◌∙◌}
use Rattle.sparse_algebra.specs.Plain.{plain_transpose}
use Rattle.sparse_compressed.specs.PlainOfLanes.{plain_of_cols}
use Rattle.sparse_products.proofs.serial.multiplicands.transposed_csc.Goals as goal

pub returns : goal.returns
returns g c = ap (plain_of_cols g.T.Ring.ring g.T.Ring.value) c.from_cs.ensures
    ∙ ap (plain_transpose g.T.Ring.ring) (rw c.cs.ensures.core at c.in_ok-transposed.ensures)
