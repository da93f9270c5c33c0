use Rattle.std.proofs.Common.{ap, sym, ◌∙◌}
use Rattle.sparse_algebra.specs.Plain.{plain_transpose}
use Rattle.sparse_algebra.specs.Operands.{plain_op}
use Rattle.sparse_compressed.specs.PlainOfLanes.{plain_of_cols}
use Rattle.sparse_products.proofs.serial.multiplicands.csc_multiplicand.Goals as goal

pub returns-in_ok-transposed-in-Transpose-clause-plain :
    goal.returns-in_ok-transposed-in-Transpose-clause-plain
returns-in_ok-transposed-in-Transpose-clause-plain g c =
    let R = g.T.Ring.ring in
    ap (plain_transpose R)
    (rw c.cs-in-Transpose.ensures.core at c.in_ok-transposed-in-Transpose.ensures)
    ∙ sym (ap (plain_op R (λ m. plain_of_cols R g.T.Ring.value m.now)) c.in-Transpose.is)
