use Rattle.std.proofs.Common.{ap, ◌∙◌}
use Rattle.std.specs.Prelude.{nat_le, nat_lt}
use Rattle.sparse_algebra.specs.Plain.{plain_kept, plain_sum, plain_transpose}
use Rattle.sparse_compressed.specs.PlainOfLanes.{plain_of_cols}
use Rattle.sparse_compressed.proofs.Arrays.{proper_rows}
use Rattle.sparse_factor.specs.Factorisations.{plain_upper}
use Rattle.sparse_factor.proofs.SymmetricMatrices.{two_triangles}
use Rattle.sparse_factor.proofs.ordered.whole.symmetric_matrix.Goals as goal

pub returns-clause-plain : goal.returns-clause-plain
returns-clause-plain g c =
    let R = g.T.Ring.ring in
    let f = g.T.Ring.value in
    let a = c.args.a.now in
    let u = c.in_ok-upper.upper in
    let upper = c.in_ok-upper.ensures in
    let mirrored = c.in_ok-mirrored.ensures in
    let kept = c.kept_cols_law.ensures (λ i j. nat_le i j) a u upper.same_shape upper.kept in
    let turned = c.transpose_law.ensures.cols u c.in_ok-mirrored.mirrored upper.sound
    mirrored.sound mirrored.transposed in
    c.in_ok-whole.ensures
    ∙ ap (λ m. plain_sum R m (plain_of_cols R f c.in_ok-below.below)) kept
    ∙ ap (plain_sum R (plain_upper R (plain_of_cols R f a)))
    (c.in_ok-below.ensures.plain
    ∙ ap (plain_kept R (λ i j. nat_lt j i)) (turned ∙ ap (plain_transpose R) kept))
    ∙ two_triangles R (plain_of_cols R f a) (λ i j. proper_rows R f a j i)
