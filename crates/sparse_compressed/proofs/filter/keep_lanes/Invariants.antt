use Rattle.std.proofs.Common.{◌+◌, ◌≤◌}
use Rattle.std.specs.Prelude.{vec_capacity}
use Rattle.sparse_compressed.specs.Filter.{Answers}
use Rattle.sparse_compressed.specs.InnerFilter.{AreKeptLanes}
use Rattle.sparse_compressed.proofs.filter.keep_lanes.Given as goal

abbrev pub invariant-loop-lane : goal.invariant-loop-lane
invariant-loop-lane g l = record {
  room : l.matrix.pattern.major_dim + 1 ≤ vec_capacity l.offsets;
  kept : AreKeptLanes (Answers g.P.Fn l.predicate) l.matrix l.offsets.items l.indices.items
      l.values.items l.lane;
}
