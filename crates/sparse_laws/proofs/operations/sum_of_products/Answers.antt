use Rattle.sparse_algebra.specs.Plain.{plain_sum}
use Rattle.sparse_compressed.specs.PlainOfLanes.{plain_of_rows}
use Rattle.sparse_laws.proofs.OkEquations.{ok_of_equals}
use Rattle.sparse_laws.proofs.operations.sum_of_products.Goals as goal

pub returns : goal.returns
returns g c = ok_of_equals (plain_of_rows g.T.Ring.ring g.T.Ring.value) (plain_sum g.T.Ring.ring)
    c.add_csr.result c.in_ok-first.ensures c.in_ok-second.ensures c.add_csr.ensures
