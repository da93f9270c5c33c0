use Rattle.std.proofs.Common.{◌≡◌, map, take, drop}
use Rattle.sparse_algebra.specs.Numbers.{w64_number}
use Rattle.c_arrays.proofs.scalars.put_numbers.Given as goal

abbrev pub invariant-loop-at : goal.invariant-loop-at
invariant-loop-at l = record {
  front : take l.at l.target ≡ map w64_number (take l.at l.source);
  back : drop l.at l.target ≡ drop l.at l.initial.target;
}
