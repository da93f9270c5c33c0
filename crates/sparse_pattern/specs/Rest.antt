-- The entries that an iterator has yet to yield.
use Rattle.std.specs.Prelude.{ℕ, ◌+◌, ◌-◌, ◌<◌, ◌≤◌, List, ◌++◌, map, length, slice_index}
use Rattle.sparse_pattern.specs.Raw.{entries_from}

-- the rest of lane i, followed by the later lanes
abbrev pub rest_of : List ℕ → List ℕ → ℕ → List ℕ → List (ℕ × ℕ)
rest_of offsets indices i left = map (λ j. (i, j)) left ++ entries_from offsets indices (i + 1)
    (length offsets - (i + 2))

-- each lane lies within the indices
pub record IsOrderedOffsets (offsets indices : List ℕ) : Type 0 where
  pub ordered : (k : ℕ) → k + 1 < length offsets
      → slice_index offsets k ≤ slice_index offsets (k + 1)
  pub inside : (k : ℕ) → k + 1 < length offsets → slice_index offsets (k + 1) ≤ length indices
