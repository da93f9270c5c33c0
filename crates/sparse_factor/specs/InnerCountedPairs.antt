-- Steps that are counted for pairs (row, column), each pair once.
use Rattle.std.specs.Prelude.{◌≡◌, ◌≢◌, ℕ, ◌+◌, List, length}
use Rattle.std.specs.List.{Contains, AllPairs}

-- `new` is `old` plus one step for each of a list of distinct pairs (row, column), which are all in
-- the set
pub record CountsPairs (In : ℕ → ℕ → Type 0) (old new : ℕ) : Type 0 where
  pub pairs : List (ℕ × ℕ)
  pub size : new ≡ old + length pairs
  pub once : AllPairs (λ x y. x ≢ y) pairs
  pub inside : (p : ℕ × ℕ) → Contains pairs p → In p.0 p.1
