use Rattle.std.proofs.Common.{sym}
use Rattle.sparse_compressed.specs.PlainOfLanes.{plain_of_rows}
use Rattle.mtxkit_matrices.proofs.FirstDifferences.{asymmetry_found}
use Rattle.mtxkit_matrices.proofs.values.first_asymmetry.Goals as goal

pub returns : goal.returns
returns g c =
    let R = g.T.Ring.ring in
    let f = g.T.Ring.value in
    let m = c.args.matrix.now in
    let t = c.in_ok-transposed.transposed in
    let transposed = c.transpose_law.ensures.rows m t c.values.ensures.sound
    c.in_ok-transposed.ensures.sound c.in_ok-transposed.ensures.transposed in
    asymmetry_found R (plain_of_rows R f m) (plain_of_rows R f t) transposed (sym c.requires)
    c.in_ok-found.found c.in_ok-found.ensures
