use Rattle.std.proofs.Common.{◌≡◌, map, take, drop}
use Rattle.sparse_algebra.specs.Integers.{element_of}
use Rattle.c_arrays.specs.Reduced.{FirstAre}
use Rattle.c_arrays.proofs.scalars.put_scalars.Given as goal

abbrev pub invariant-loop-at : goal.invariant-loop-at
invariant-loop-at g l = record {
  front : map (element_of g.T.Ring.ring) (take l.at l.target)
      ≡ map g.T.Ring.value (take l.at l.source);
  shown : FirstAre g.T.Number.is_shown l.at l.target;
  back : drop l.at l.target ≡ drop l.at l.initial.target;
}
