use Rattle.std.proofs.Common.{◌≤◌, ◌↔◌, Contains, subst, arith}
use Rattle.std.proofs.lemmas.List.{take_all}
use Rattle.sparse_factor.proofs.Marks.{base_row_skipped, base_row_merged}
use Rattle.sparse_factor.proofs.factorization.columns.added.merge_lane.Goals as goal
use Rattle.sparse_factor.proofs.factorization.columns.added.merge_lane.Goals.{then-column-row}
use Rattle.sparse_factor.proofs.factorization.columns.added.merge_lane.Goals.{else-column-row}

pub loop-row-preserved : goal.loop-row-preserved
loop-row-preserved g c =
    let inv = c.loop-row.invariant in
    elim c.if-column-row.branch [
      | then-column-row w ↦
          let took = w.merge_row.ensures in
          rw (w.marks-is, w.added-is) record {
            count = omega (arith, took.count, inv.count);
            room = omega (arith, took.len, took.capacity, inv.room, c.loop-row-test.true);
            marked = took.marked;
            added = base_row_merged inv.added c.loop-row-test.true c.requires.lane w.if-column-row.true
                took.added took.once;
            counted = omega (arith, c.tick.ensures, inv.counted);
          }
      | else-column-row w ↦ rw (w.marks-is, w.added-is) record {
        count = inv.count;
        room = omega (arith, inv.room, c.loop-row-test.true);
        marked = inv.marked;
        added = base_row_skipped inv.added c.loop-row-test.true w.if-column-row.false;
        counted = omega (arith, c.tick.ensures, inv.counted);
      }
    ]

pub returns-clause-rows : goal.returns-clause-rows
returns-clause-rows g c = λ r.
    let lane = c.args.lane.now in
    let now = c.loop-row.added.items in
    subst (λ l. Contains now r ↔ (Contains l r × (c.args.column ≤ r)))
    (take_all c.loop-row.row-index lane (omega (arith, c.loop-row-test.false)))
    (c.loop-row.invariant.added.holds r)
