use Rattle.sparse_algebra.specs.Plain.{plain_product}
use Rattle.sparse_compressed.specs.PlainOfLanes.{plain_of_cols}
use Rattle.sparse_laws.proofs.OkEquations.{ok_of_equals}
use Rattle.sparse_laws.proofs.operations.columns.product_of_transposes.Goals as goal

pub returns : goal.returns
returns g c = ok_of_equals (plain_of_cols g.T.Ring.ring g.T.Ring.value) (plain_product g.T.Ring.ring)
    c.mul_csc.result c.in_ok-second.ensures c.in_ok-first.ensures c.mul_csc.ensures
