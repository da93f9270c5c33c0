use Rattle.std.proofs.Common.{◌≡◌, ◌↔◌, ℕ, ◌<◌, get_or, length, vec_len, false, true}
use Rattle.sparse_permutation.specs.Permutations.{IsNewIndex}
use Rattle.sparse_permutation.proofs.permutation.check.Given as goal

abbrev pub invariant-loop-at : goal.invariant-loop-at
invariant-loop-at l = record {
  count : vec_len l.occurs ≡ length l.order;
  fine : (k : ℕ) → k < l.at → IsNewIndex l.order k;
  marks : (i : ℕ) → i < length l.order → (get_or l.occurs.items i false ≡ true)
      ↔ ((k : ℕ) × (k < l.at) × (get_or l.order k 0 ≡ i));
}
