use Rattle.std.proofs.Common.{◌≡◌, ℕ, ◌+◌, ◌*◌, ◌<◌, length, sum, slice_index}
use Rattle.mtxkit_matrices.specs.Lanes.{count_below, has_size_in}
use Rattle.mtxkit_matrices.proofs.facts.lanes.counted_lanes.Given as goal

abbrev pub invariant-loop-line : goal.invariant-loop-line
invariant-loop-line l = record {
  lines : length l.counts.items ≡ l.line;
  each : (b : ℕ) → b < l.line → slice_index l.counts.items b ≡ count_below l.pattern.major_dim
      (has_size_in l.pattern (b * l.width) ((b + 1) * l.width));
  total : sum l.counts.items
      ≡ count_below l.pattern.major_dim (has_size_in l.pattern 0 (l.line * l.width));
}
