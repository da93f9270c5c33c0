use Rattle.std.proofs.Common.{ap}
use Rattle.sparse_algebra.specs.Plain.{plain_transpose}
use Rattle.sparse_compressed.specs.PlainOfLanes.{plain_of_cols}
use Rattle.sparse_laws.proofs.OkEquations.{ok_further}
use Rattle.sparse_laws.proofs.operations.columns.transposed_product.Goals as goal

pub returns : goal.returns
returns g c = ok_further (plain_of_cols g.T.Ring.ring g.T.Ring.value) c.transposed_csc.result
    (ap (plain_transpose g.T.Ring.ring) c.in_ok-product.ensures) c.transposed_csc.ensures
