-- A list of indices to which a lane is appended.
use Rattle.std.specs.Prelude.{◌≡◌, ℕ, List, ◌++◌, Contains, ◌↔◌}
use Rattle.std.specs.List.Sorted.{IsStrictlyIncreasing}

-- new is old followed by a lane: the indices for which P holds, strictly increasing
pub record GainsLane (old new : List ℕ) (P : ℕ → Type 0) : Type 0 where
  pub lane : List ℕ
  pub pushed : new ≡ old ++ lane
  pub rising : IsStrictlyIncreasing lane
  pub holds : (j : ℕ) → Contains lane j ↔ P j
