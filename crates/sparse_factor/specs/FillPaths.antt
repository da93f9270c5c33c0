-- Fill paths: paths along the pairs of a base, and the entries of the factor that they imply.
use Rattle.std.specs.Prelude.{ℕ, ◌<◌, ◌≤◌, ◌↔◌, ◌⊎◌}
use Rattle.sparse_pattern.specs.Raw.{Raw, IsEntry}

-- joined by a base pair in either direction
abbrev pub Joined : (ℕ → ℕ → Type 0) → ℕ → ℕ → Type 0
Joined base i j = base i j ⊎ base j i

-- a path from i to j whose inner nodes are less than m; it may pass a node twice
pub data FillPath (base : ℕ → ℕ → Type 0) (m : ℕ) : ℕ → ℕ → Type 0 where
  edge : {i j : ℕ} → Joined base i j → FillPath base m i j
  step : {i j k : ℕ} → Joined base i k → k < m → FillPath base m k j → FillPath base m i j

-- for j ≤ i the pattern, read by columns, has (i, j) exactly if there is a path from i to j whose
-- inner nodes are less than j
abbrev pub StoresFillPaths : (ℕ → ℕ → Type 0) → Raw → Type 0
StoresFillPaths base p = (i j : ℕ) → j ≤ i → IsEntry p j i ↔ FillPath base j i j

-- the pattern has (j, j) exactly if the base has (j, r) for some r
abbrev pub StoresDiagonal : (ℕ → ℕ → Type 0) → Raw → Type 0
StoresDiagonal base p = (j : ℕ) → IsEntry p j j ↔ ((r : ℕ) × base j r)
