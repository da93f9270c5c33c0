use Rattle.std.proofs.Common.{◌≡◌, ℕ, ◌+◌, ◌-◌, ◌≤◌, ◌⊎◌, ◌↔◌, Contains, length, map, take, vec_len}
use Rattle.std.specs.Prelude.{vec_capacity}
use Rattle.sparse_factor.specs.InnerMarks.{AreMarked}
use Rattle.sparse_factor.proofs.factorization.columns.added.merge_tail.Given as goal

abbrev pub invariant-loop-row : goal.invariant-loop-row
invariant-loop-row g l = record {
  count : length l.marks ≡ length l.initial.marks;
  room : vec_len l.added + (length l.tail - l.row-index) ≤ vec_capacity l.added;
  marked : AreMarked l.mark (map g.C.Count.number l.marks) l.added.items;
  holds : (r : ℕ) → Contains l.added.items r
      ↔ (Contains l.initial.added.items r ⊎ Contains (take l.row-index l.tail) r);
  counted : l.steps ≡ l.initial.steps + l.row-index;
}
