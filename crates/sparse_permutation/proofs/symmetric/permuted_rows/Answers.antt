use Rattle.std.proofs.Common.{ap, ◌∙◌}
use Rattle.sparse_coo_dense.specs.CooPlain.{plain_of_coo}
use Rattle.sparse_compressed.specs.Compressed.{lane_triplets}
use Rattle.sparse_compressed.proofs.TripletBounds.{lane_triplets-inside}
use Rattle.sparse_permutation.specs.InnerRenumbered.{renumbered_coo}
use Rattle.sparse_permutation.proofs.PermutedTriplets.{plain_of_renumbered}
use Rattle.sparse_permutation.proofs.symmetric.permuted_rows.Goals as goal

pub returns-clause-plain : goal.returns-clause-plain
returns-clause-plain g c =
    let R = g.T.Ring.ring in
    let f = g.T.Ring.value in
    let a = c.args.a.now in
    let inverse = c.in_ok-inverse.ensures in
    c.in_ok-matrix.ensures.plain
    ∙ ap (plain_of_coo R f) (c.renumber.ensures
    ∙ ap (renumbered_coo c.in_ok-inverse.inverse) c.in_ok-list.ensures)
    ∙ plain_of_renumbered inverse.inverse inverse.valid R f (lane_triplets a)
    a.pattern.major_dim a.pattern.minor_dim c.requires.rows c.requires.cols
    (lane_triplets-inside a c.values.ensures.sound)
