use Rattle.std.proofs.Common.{map, ap, ◌∙◌}
use Rattle.sparse_coo_dense.specs.CooPlain.{plain_of_coo}
use Rattle.sparse_compressed.specs.Compressed.{lane_triplets, transposed}
use Rattle.sparse_compressed.proofs.TripletBounds.{lane_triplets-inside}
use Rattle.sparse_permutation.specs.InnerRenumbered.{renumbered_coo}
use Rattle.sparse_permutation.specs.PermutedPlain.{plain_permuted}
use Rattle.sparse_permutation.proofs.PermutedTriplets.{plain_of_renumbered, plain_of_transposed}
use Rattle.sparse_permutation.proofs.PermutedTriplets.{transposed_inside}
use Rattle.sparse_permutation.proofs.symmetric.permuted_cols.Goals as goal

pub returns-clause-plain : goal.returns-clause-plain
returns-clause-plain g c =
    let R = g.T.Ring.ring in
    let f = g.T.Ring.value in
    let a = c.args.a.now in
    let rows = a.pattern.minor_dim in
    let cols = a.pattern.major_dim in
    let ts = lane_triplets a in
    let inverse = c.in_ok-inverse.ensures in
    c.in_ok-matrix.ensures.plain
    ∙ ap (plain_of_coo R f) (c.renumber.ensures
    ∙ ap (renumbered_coo c.in_ok-inverse.inverse) c.in_ok-list.ensures)
    ∙ plain_of_renumbered inverse.inverse inverse.valid R f (map transposed ts) rows cols
    c.requires.rows c.requires.cols
    (transposed_inside cols rows ts (lane_triplets-inside a c.values.ensures.sound))
    ∙ ap (plain_permuted R c.args.permutation.now) (plain_of_transposed R f cols rows ts)
