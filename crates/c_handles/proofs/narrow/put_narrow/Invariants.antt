use Rattle.std.proofs.Common.{◌≡◌, take, drop}
use Rattle.c_handles.proofs.narrow.put_narrow.Given as goal

abbrev pub invariant-loop-at : goal.invariant-loop-at
invariant-loop-at l = record {
  front : take l.at l.target ≡ take l.at l.source;
  back : drop l.at l.target ≡ drop l.at l.initial.target;
}
