use Rattle.std.proofs.Common.{◌≡◌, ◌-◌, length, map, slice_index, sym, ◌∙◌, arith}
use Rattle.sparse_factor.proofs.Children.{IsOnList-head, IsOnList-next, link_at, column_at}
use Rattle.sparse_factor.proofs.factorization.columns.children.longest_child.Given.{Over}
use Rattle.sparse_factor.proofs.factorization.columns.children.longest_child.Goals as goal
use Rattle.sparse_factor.proofs.factorization.columns.children.longest_child.Goals.{After-get-head}
use Rattle.sparse_factor.proofs.factorization.columns.children.longest_child.Goals.{then-most-places}
use Rattle.sparse_factor.proofs.factorization.columns.children.longest_child.Goals.{else-most-places}

pub loop-head-init : goal.loop-head-init
loop-head-init g c = record {
  within = c.requires.first;
  some = λ ne. ne;
  on_list = λ k e. IsOnList-head e;
  rest = λ k r. r;
}

link : (g : Over) (c : After-get-head g) → c.get-head.result
    ≡ slice_index (map g.C.Count.number c.args.nexts.now) (c.loop-head.head - 1)
link g c =
    link_at g.C.Count.number c.args.nexts.now (length c.args.columns.now.offsets.items)
    c.loop-head.head c.loop-head-test.true c.loop-head.invariant.within c.requires.linked
    c.index-nexts-head.is c.get-head.ensures

pub loop-head-smaller : goal.loop-head-smaller
loop-head-smaller g c = omega (
  arith,
  link g (goal.at.loop-head-smaller g c).After-get-head,
  c.requires.falling (c.loop-head.head - 1),
  c.loop-head-test.true,
)

pub overflow_sub-places : goal.overflow_sub-places
overflow_sub-places g c =
    (column_at c.requires.columns c.loop-head-test.true c.loop-head.invariant.within
    c.index-in-loop-head.ensures c.index.ensures).run.ordered

pub loop-head-preserved : goal.loop-head-preserved
loop-head-preserved g c =
    let l = c.loop-head in
    let inv = l.invariant in
    let some = c.loop-head-test.true in
    let read = link g (goal.at.loop-head-preserved g c).After-get-head in
    record {
      within = omega (arith, read, c.requires.falling (l.head - 1), inv.within);
      some = λ ne. elim c.if-most-places.branch [
        | then-most-places w ↦ λ e. some (sym w.longest-is ∙ e)
        | else-most-places w ↦ λ e. inv.some ne (sym w.longest-is ∙ e)
      ];
      on_list = λ k e. elim c.if-most-places.branch [
        | then-most-places w ↦ inv.rest k (IsOnList-head (sym w.longest-is ∙ e))
        | else-most-places w ↦ inv.on_list k (sym w.longest-is ∙ e)
      ];
      rest = λ k r. inv.rest k (IsOnList-next some read r);
    }
