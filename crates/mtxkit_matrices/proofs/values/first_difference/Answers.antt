use Rattle.std.proofs.Common.{refl}
use Rattle.sparse_compressed.specs.PlainOfLanes.{plain_of_rows}
use Rattle.mtxkit_matrices.proofs.FirstDifferences.{difference_found}
use Rattle.mtxkit_matrices.proofs.values.first_difference.Goals as goal

pub returns : goal.returns
returns g c =
    let R = g.T.Ring.ring in
    let f = g.T.Ring.value in
    let a = c.args.a.now in
    difference_found R (plain_of_rows R f a) (plain_of_rows R f c.args.b.now)
    (plain_of_rows R f c.in_ok-difference.difference) c.in_ok-difference.ensures
    a.pattern.major_dim a.pattern.minor_dim refl refl c.first_nonzero.result c.first_nonzero.ensures
