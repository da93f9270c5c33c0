-- Walks along the entries of a square pattern.
use Rattle.std.specs.Prelude.{◌≡◌, ℕ, suc, ◌<◌, ◌↔◌}
use Rattle.nalgebra_sparse.specs.Raw.{Raw, IsEntry}
use Rattle.nalgebra_sparse.specs.PatternSums.{IsUnionOf}

-- the entries are the diagonal of order n
abbrev pub IsDiagonal : Raw → ℕ → Type 0
IsDiagonal p n = (i j : ℕ) → IsEntry p i j ↔ ((i ≡ j) × (i < n))

-- a walk of at most k steps from i to j, each along an entry of the pattern
pub data WalkWithin (p : Raw) : ℕ → ℕ → ℕ → Type 0 where
  here : {k i : ℕ} → i < p.major_dim → WalkWithin p k i i
  step : {k i m j : ℕ} → IsEntry p i m → WalkWithin p k m j → WalkWithin p (suc k) i j

-- (i, j) is an entry of r exactly where a walk of at most k steps leads from i to j
abbrev pub HoldsWalks : Raw → ℕ → Raw → Type 0
HoldsWalks p k r = (i j : ℕ) → IsEntry r i j ↔ WalkWithin p k i j

-- if b has the diagonal and the entries of p, and `start` has the walks of no steps, then r has the
-- walks of at most k steps
abbrev pub TakesSteps : Raw → Raw → ℕ → Raw → Type 0
TakesSteps b start k r = (p d : Raw)
    → IsDiagonal d p.major_dim
    → IsUnionOf b d p
    → HoldsWalks p 0 start
    → HoldsWalks p k r

-- some walk leads from i to j
abbrev pub IsReachable : Raw → ℕ → ℕ → Type 0
IsReachable p i j = (k : ℕ) × WalkWithin p k i j

-- (i, j) is an entry of r exactly where some walk leads from i to j
abbrev pub HoldsReachable : Raw → Raw → Type 0
HoldsReachable p r = (i j : ℕ) → IsEntry r i j ↔ IsReachable p i j
