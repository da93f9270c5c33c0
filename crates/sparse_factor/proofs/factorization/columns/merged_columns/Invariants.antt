use Rattle.std.proofs.Common.{◌≡◌, ◌+◌, length, map}
use Rattle.sparse_pattern.specs.Raw.{start_of}
use Rattle.sparse_factor.specs.Fill.{LowerBase}
use Rattle.sparse_factor.specs.InnerMarks.{AreAtMost}
use Rattle.sparse_factor.specs.InnerCountedPairs.{CountsPairs}
use Rattle.sparse_factor.proofs.Merged.{AreMerged}
use Rattle.sparse_factor.proofs.CountedMerges.{IsMergedBefore}
use Rattle.sparse_factor.proofs.factorization.columns.merged_columns.Given as goal

abbrev pub invariant-loop-column : goal.invariant-loop-column
invariant-loop-column g l =
    let base = LowerBase l.base in
    let f = g.C.Count.number in
    record {
      merged : AreMerged base l.size l.columns.offsets.items l.columns.rows.items
          (map f l.firsts) (map f l.nexts) l.column;
      count : length l.added.marks.items ≡ l.size;
      marks : AreAtMost l.column (map f l.added.marks.items);
      added : CountsPairs (IsMergedBefore base l.column)
          (l.initial.steps + start_of l.base l.column) l.steps;
    }
