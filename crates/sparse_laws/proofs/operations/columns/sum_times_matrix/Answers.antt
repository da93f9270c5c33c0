use Rattle.std.proofs.Common.{refl}
use Rattle.sparse_algebra.specs.Plain.{plain_product}
use Rattle.sparse_compressed.specs.PlainOfLanes.{plain_of_cols}
use Rattle.sparse_laws.proofs.OkEquations.{ok_of_equals}
use Rattle.sparse_laws.proofs.operations.columns.sum_times_matrix.Goals as goal

pub returns : goal.returns
returns g c =
    let plain = plain_of_cols g.T.Ring.ring g.T.Ring.value in
    ok_of_equals plain (plain_product g.T.Ring.ring) c.mul_csc.result {y = plain c.args.c.now}
    c.in_ok-sum.ensures refl c.mul_csc.ensures
