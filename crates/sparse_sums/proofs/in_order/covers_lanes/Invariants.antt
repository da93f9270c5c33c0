use Rattle.std.proofs.Common.{ℕ, ◌<◌}
use Rattle.sparse_pattern.specs.Raw.{IsEntry}
use Rattle.sparse_sums.proofs.in_order.covers_lanes.Given as goal

abbrev pub invariant-loop-i : goal.invariant-loop-i
invariant-loop-i l = (n : ℕ) → n < l.i → (j : ℕ) → IsEntry l.a n j → IsEntry l.target n j
