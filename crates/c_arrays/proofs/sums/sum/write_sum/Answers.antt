use Rattle.std.proofs.Common.{subst}
use Rattle.sparse_algebra.specs.Plain.{Plain, plain_scaled, plain_sum}
use Rattle.c_arrays.specs.Arrays.{plain_by_rows, output_arrays, HoldsRows}
use Rattle.c_arrays.proofs.sums.sum.write_sum.Goals as goal

pub returns-clause-written : goal.returns-clause-written
returns-clause-written g c = λ _.
    let R = g.T.Ring.ring in
    let f = g.T.Ring.value in
    let one = c.in-Ok.ensures in
    let two = c.in-Ok-term.ensures in
    let rows = c.write_rows in
    let room = output_arrays rows.new.offsets rows.new.indices rows.new.values rows.result in
    subst (λ (p : Plain R). HoldsRows p room)
    (λ k. plain_sum R (plain_scaled R (f (one.scale k)) (plain_by_rows R (one.matrix k)))
    (plain_scaled R (f (two.scale k)) (plain_by_rows R (two.matrix k))))
    rows.ensures.written
