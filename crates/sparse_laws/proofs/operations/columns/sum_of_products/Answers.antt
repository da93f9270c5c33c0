use Rattle.sparse_algebra.specs.Plain.{plain_sum}
use Rattle.sparse_compressed.specs.PlainOfLanes.{plain_of_cols}
use Rattle.sparse_laws.proofs.OkEquations.{ok_of_equals}
use Rattle.sparse_laws.proofs.operations.columns.sum_of_products.Goals as goal

pub returns : goal.returns
returns g c = ok_of_equals (plain_of_cols g.T.Ring.ring g.T.Ring.value) (plain_sum g.T.Ring.ring)
    c.add_csc.result c.in_ok-first.ensures c.in_ok-second.ensures c.add_csc.ensures
