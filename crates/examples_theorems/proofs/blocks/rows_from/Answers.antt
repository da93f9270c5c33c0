use Rattle.std.proofs.Common.{◌≡◌, [], ap, ◌∙◌, rules}
use Rattle.nalgebra_sparse.specs.Compressed.{lane_triplets}
use Rattle.nalgebra_sparse.specs.CooPlain.{plain_of_coo}
use Rattle.nalgebra_sparse.specs.Coo.{coo_of}
use Rattle.examples_theorems.proofs.BlockLists.{started, one_less, none_left}
use Rattle.examples_theorems.proofs.RowTriplets.{triplets-block}
use Rattle.examples_theorems.proofs.blocks.rows_from.Goals as goal

pub loop-row-init : goal.loop-row-init
loop-row-init g c =
    let m = c.args.a.now in
    let all : c.into_iter-row-iterator.result ≡ lane_triplets m = search rules in
    started c.args.start c.args.count m.pattern.minor_dim (lane_triplets m) _ _ all
    (c.new-block.ensures ∙ ap (λ n. coo_of c.args.count n []) c.ncols.ensures)

pub loop-row-preserved : goal.loop-row-preserved
loop-row-preserved g c =
    one_less c.args.start c.args.count c.args.a.now.pattern.minor_dim _ _ _
    (c.in-Some.row, c.in-Some.col, c.in-Some.value.now) c.loop-row.block c.push_inside.new.list
    c.in-Some.ensures.steps c.in_ok-push_inside.ensures c.loop-row.invariant

pub returns-clause-plain : goal.returns-clause-plain
returns-clause-plain g c =
    let R = g.T.Ring.ring in
    let f = g.T.Ring.value in
    let m = c.args.a.now in
    let stands = c.stands_law.ensures.rows m c.triplet_iter-row-items.ensures.sound in
    c.in_ok-rows.ensures.plain
    ∙ ap (plain_of_coo R f) (none_left c.args.start c.args.count m.pattern.minor_dim _ _ _
    c.in-None.ensures.steps.0 c.loop-row.invariant)
    ∙ triplets-block R f c.args.start c.args.count m.pattern.major_dim m.pattern.minor_dim
    (lane_triplets m) stands.within stands.proper
