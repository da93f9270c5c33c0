use Rattle.std.proofs.Common.{◌≡◌, length, map}
use Rattle.sparse_factor.specs.InnerMarks.{AreMarked}
use Rattle.sparse_factor.proofs.MergedTails.{AreTailsMerged}
use Rattle.sparse_factor.proofs.factorization.columns.children.merge_tails.Given as goal

abbrev pub invariant-loop-head : goal.invariant-loop-head
invariant-loop-head g l = record {
  tails_merged : AreTailsMerged l.columns.offsets.items l.columns.rows.items
      (map g.C.Count.number l.nexts) l.fn.children.0 l.fn.children.1 l.initial.added.rows.items
      l.added.rows.items l.initial.steps l.steps l.head;
  count : length l.added.marks.items ≡ length l.initial.added.marks.items;
  marked : AreMarked l.mark (map g.C.Count.number l.added.marks.items) l.added.rows.items;
}

abbrev pub decreases-loop-head : goal.decreases-loop-head
decreases-loop-head g l = l.head
