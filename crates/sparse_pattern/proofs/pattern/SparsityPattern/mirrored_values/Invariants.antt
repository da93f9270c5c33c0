use Rattle.std.proofs.Common.{◌≡◌, ◌+◌, ◌≤◌, length, vec_capacity}
use Rattle.sparse_pattern.specs.Raw.{start_of}
use Rattle.sparse_pattern.specs.InnerTransposes.{AreMirrored, ArePastStarts}
use Rattle.sparse_pattern.proofs.pattern.SparsityPattern.mirrored_values.Given as goal

abbrev pub invariant-loop-lane : goal.invariant-loop-lane
invariant-loop-lane g l = record {
  count : length l.moved.items ≡ start_of l.self l.lane;
  room : length l.self.indices ≤ vec_capacity l.moved;
  cursor_count : length l.cursors.items ≡ l.self.major_dim + 1;
  cursors : ArePastStarts l.self l.cursors.items;
  mirrored : AreMirrored l.self l.values l.moved.items;
}
