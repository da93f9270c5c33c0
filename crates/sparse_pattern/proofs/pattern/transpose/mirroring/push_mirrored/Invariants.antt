use Rattle.std.proofs.Common.{◌≡◌, ◌+◌, length, vec_capacity}
use Rattle.sparse_pattern.specs.InnerTransposes.{AreMirrored, ArePastStarts}
use Rattle.sparse_pattern.proofs.pattern.transpose.mirroring.push_mirrored.Given as goal

abbrev pub invariant-loop-offset : goal.invariant-loop-offset
invariant-loop-offset g l = record {
  count : length l.moved.items ≡ l.offset;
  room : vec_capacity l.moved ≡ vec_capacity l.initial.moved;
  cursor_count : length l.cursors ≡ l.pattern.major_dim + 1;
  cursors : ArePastStarts l.pattern l.cursors;
  mirrored : AreMirrored l.pattern l.values l.moved.items;
}
