use Rattle.std.proofs.Common.{◌≡◌, ℕ, ◌<◌, get_or, length, vec_len}
use Rattle.sparse_permutation.proofs.permutation.Permutation.inverse.Given as goal

abbrev pub invariant-loop-at : goal.invariant-loop-at
invariant-loop-at l = record {
  count : vec_len l.inverse ≡ length l.order;
  so_far : (k : ℕ) → k < l.at → get_or l.inverse.items (get_or l.order k 0) 0 ≡ k;
}
