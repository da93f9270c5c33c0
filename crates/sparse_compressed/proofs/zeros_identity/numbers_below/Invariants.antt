use Rattle.std.proofs.Common.{◌≡◌, ◌≤◌, EachIndex, slice_index, vec_len}
use Rattle.std.specs.Prelude.{vec_capacity}
use Rattle.sparse_compressed.proofs.zeros_identity.numbers_below.Given as goal

abbrev pub invariant-loop-number : goal.invariant-loop-number
invariant-loop-number l = record {
  room : l.n ≤ vec_capacity l.numbers;
  count : vec_len l.numbers ≡ l.number;
  numbers : EachIndex l.numbers.items (λ k. slice_index l.numbers.items k ≡ k);
}
