-- The arrays of a compressed matrix while a sorted list is read.
use Rattle.std.specs.Prelude.{◌≡◌, ℕ, ◌+◌, ◌<◌, List, [], ◌∷◌, ◌++◌, length}
use Rattle.sparse_algebra.specs.Algebra.{CommRing}
use Rattle.sparse_convert.specs.InnerTripletLanes.{triplets_of_lane}
use Rattle.sparse_convert.specs.InnerMerged.{AreLanesMerged}

-- the arrays hold the sorted triplets: lanes before n are complete, and lane n is open, so it ends
-- at the end of the arrays
pub record AreInOrder (R : CommRing) {T : Type 0} (f : T → R.Carrier) (zero : T) (n : ℕ)
    (ts : List (ℕ × ℕ × T)) (starts indices : List ℕ) (values : List T) : Type 0 where
  pub lanes : AreLanesMerged R f zero (triplets_of_lane ts) (n + 1)
      (starts ++ length indices ∷ []) indices values
  pub none : (i : ℕ) → n < i → triplets_of_lane ts i ≡ []
