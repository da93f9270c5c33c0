use Rattle.std.proofs.Common.{◌≡◌, ℕ, ◌<◌, length, slice_index}
use Rattle.mtx_commands.proofs.fill.numbers_to.Given as goal

abbrev pub invariant-loop-number : goal.invariant-loop-number
invariant-loop-number l = record {
  count : length l.numbers.items ≡ l.number;
  each : (k : ℕ) → k < l.number → slice_index l.numbers.items k ≡ k;
}
