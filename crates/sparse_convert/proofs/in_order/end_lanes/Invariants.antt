use Rattle.std.proofs.Common.{◌≡◌, ◌+◌, ◌-◌, ◌++◌, length, replicate, vec_len, vec_capacity}
use Rattle.sparse_convert.proofs.in_order.end_lanes.Given as goal

abbrev pub invariant-loop : goal.invariant-loop
invariant-loop l = record {
  count : vec_len l.offsets ≡ l.counter + 1;
  ended : l.offsets.items ≡ l.initial.offsets.items
      ++ replicate (l.counter + 1 - length l.initial.offsets.items) l.end;
  room : vec_capacity l.offsets ≡ vec_capacity l.initial.offsets;
}
