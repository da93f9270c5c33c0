-- Merges of prefixes of two strictly increasing lists of indices.
use Rattle.std.specs.Prelude.{◌≡◌, ℕ, ◌+◌, ◌<◌, ◌≤◌, ◌⊎◌, ◌↔◌, List, ◌++◌, length, slice_index}
use Rattle.std.specs.Prelude.{take, Contains}
use Rattle.std.specs.List.Sorted.{IsStrictlyIncreasing}

-- the lane has the first p indices of a and the first q of b, and all of them are less than the next one of each list
pub record IsMerged (a b : List ℕ) (p q : ℕ) (lane : List ℕ) : Type 0 where
  pub rising : IsStrictlyIncreasing lane
  pub holds : (j : ℕ) → Contains lane j ↔ (Contains (take p a) j ⊎ Contains (take q b) j)
  pub below_a : p < length a → (j : ℕ) → Contains lane j → j < slice_index a p
  pub below_b : q < length b → (j : ℕ) → Contains lane j → j < slice_index b q
  pub long : length lane ≤ p + q

-- the list has gained the merge of these prefixes at its end
pub record IsMerging (old now a b : List ℕ) (p q : ℕ) : Type 0 where
  pub lane : List ℕ
  pub pushed : now ≡ old ++ lane
  pub merged : IsMerged a b p q lane
