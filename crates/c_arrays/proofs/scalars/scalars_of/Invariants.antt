use Rattle.std.proofs.Common.{◌≡◌, length, map, take}
use Rattle.sparse_algebra.specs.Integers.{element_of}
use Rattle.c_arrays.proofs.scalars.scalars_of.Given as goal

abbrev pub invariant-loop-number : goal.invariant-loop-number
invariant-loop-number g l = record {
  values : map g.T.Ring.value l.scalars.items
      ≡ map (element_of g.T.Ring.ring) (take l.number-index l.numbers);
  count : length l.scalars.items ≡ l.number-index;
}
