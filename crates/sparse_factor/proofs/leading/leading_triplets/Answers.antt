use Rattle.std.proofs.Common.{◌≡◌, sym, ◌∙◌, rules}
use Rattle.sparse_factor.proofs.LeadingBlocks.{none_left, one_less, started}
use Rattle.sparse_factor.proofs.leading.leading_triplets.Goals as goal

pub loop-row-init : goal.loop-row-init
loop-row-init g c =
    let all : c.into_iter-row-iterator.result ≡ c.args.a.now.triplets = search rules in
    started c.args.size _ _ _ all c.new-list.ensures

pub push_leading-requires : goal.push_leading-requires
push_leading-requires g c = c.loop-row.invariant.cols ∙ sym c.loop-row.invariant.rows

pub loop-row-preserved : goal.loop-row-preserved
loop-row-preserved g c =
    one_less c.args.size _ _ _ (c.in-Some.row, c.in-Some.col, c.in-Some.value.now) c.loop-row.list
    c.push_leading.new.list c.in-Some.ensures.steps c.in_ok-push_leading.ensures
    c.loop-row.invariant

pub returns : goal.returns
returns g c = none_left c.args.size _ _ _ c.in-None.ensures.steps.0 c.loop-row.invariant
