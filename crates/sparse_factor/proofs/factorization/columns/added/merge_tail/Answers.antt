use Rattle.std.proofs.Common.{◌⊎◌, ◌↔◌, Contains, get_or, refl, subst, arith}
use Rattle.std.proofs.lemmas.List.{take_all}
use Rattle.sparse_sums.proofs.Merging.{more}
use Rattle.sparse_factor.proofs.Marks.{row_merged}
use Rattle.sparse_factor.proofs.Alternatives.{second_grown}
use Rattle.sparse_factor.proofs.factorization.columns.added.merge_tail.Goals as goal

pub loop-row-preserved : goal.loop-row-preserved
loop-row-preserved g c =
    let tail = c.args.tail.now in
    let t = c.loop-row.row-index in
    let inv = c.loop-row.invariant in
    let took = c.merge_row.ensures in
    record {
      count = omega (arith, took.count, inv.count);
      room = omega (arith, took.len, took.capacity, inv.room, c.loop-row-test.true);
      marked = took.marked;
      holds = λ r. second_grown (row_merged took.added took.once r) (inv.holds r)
          (more tail t (get_or tail t 0) r c.loop-row-test.true refl);
      counted = omega (arith, c.tick.ensures, inv.counted);
    }

pub returns-clause-rows : goal.returns-clause-rows
returns-clause-rows g c = λ r.
    let tail = c.args.tail.now in
    let now = c.loop-row.added.items in
    let old = c.args.added.now.items in
    subst (λ l. Contains now r ↔ (Contains old r ⊎ Contains l r))
    (take_all c.loop-row.row-index tail (omega (arith, c.loop-row-test.false)))
    (c.loop-row.invariant.holds r)
