use Rattle.std.proofs.Common.{◌≡◌, length, map, take}
use Rattle.sparse_algebra.specs.Integers.{element_of}
use Rattle.c_handles.proofs.ring_matrix.integers_of.Given as goal

abbrev pub invariant-loop-scalar : goal.invariant-loop-scalar
invariant-loop-scalar g l = record {
  values : map (element_of g.T.Ring.ring) l.numbers.items
      ≡ map g.T.Ring.value (take l.scalar-index l.scalars);
  count : length l.numbers.items ≡ l.scalar-index;
}
