-- Permutations of the numbers below n, as lists: the number at k is what is permuted to k.
use Rattle.std.specs.Prelude.{◌≡◌, ◌≢◌, ℕ, ◌<◌, Bool, List, map, length, slice_index, ◌==◌}
use Rattle.std.specs.Cmp.Lexicographic.{pointwise}

-- the index at k is below the length of the list, and is not one of those before it
pub record IsNewIndex (order : List ℕ) (k : ℕ) : Type 0 where
  pub below : slice_index order k < length order
  pub new : (l : ℕ) → l < k → slice_index order l ≢ slice_index order k

-- each number below the length of the list occurs in it exactly once: its indices are below its length,
-- and none occurs before
abbrev pub IsOrder : List ℕ → Type 0
IsOrder order = (k : ℕ) → k < length order → IsNewIndex order k

-- the lists are inverse to each other: where one has k at i, the other has i at k
pub record IsInverse (p q : List ℕ) : Type 0 where
  pub count : length q ≡ length p
  pub left : (k : ℕ) → k < length p → slice_index q (slice_index p k) ≡ k
  pub right : (i : ℕ) → i < length p → slice_index p (slice_index q i) ≡ i

-- the permutation p followed by q
abbrev pub composed : List ℕ → List ℕ → List ℕ
composed p q = map (λ k. slice_index p k) q

-- the result of `==`
abbrev pub order_eq : List ℕ → List ℕ → Bool
order_eq = pointwise ◌==◌
