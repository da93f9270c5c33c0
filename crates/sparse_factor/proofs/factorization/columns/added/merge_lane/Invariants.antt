use Rattle.std.proofs.Common.{◌≡◌, ◌+◌, ◌-◌, ◌≤◌, length, map, vec_len}
use Rattle.std.specs.Prelude.{vec_capacity}
use Rattle.sparse_factor.specs.InnerMarks.{AreMarked}
use Rattle.sparse_factor.proofs.Marks.{AreBaseRows}
use Rattle.sparse_factor.proofs.factorization.columns.added.merge_lane.Given as goal

abbrev pub invariant-loop-row : goal.invariant-loop-row
invariant-loop-row g l = record {
  count : length l.marks ≡ length l.initial.marks;
  room : vec_len l.added + (length l.lane - l.row-index) ≤ vec_capacity l.added;
  marked : AreMarked (l.column + 1) (map g.C.Count.number l.marks) l.added.items;
  added : AreBaseRows l.lane l.column l.row-index l.added.items;
  counted : l.steps ≡ l.initial.steps + l.row-index;
}
