-- The rows and columns of a list of triplets, and patterns with one entry in each lane.
use Rattle.std.specs.Prelude.{◌≡◌, ℕ, ◌+◌, ◌<◌, ◌≤◌, ◌↔◌, List, length, map, slice_index}
use Rattle.nalgebra_sparse.specs.Raw.{Raw, IsEntry}
use Rattle.nalgebra_sparse.specs.Coo.{Coo}

-- a triplet of the list has row i and column j
pub record HasTriplet {T : Type 0} (m : Coo T) (i j : ℕ) : Type 0 where
  pub at : ℕ
  pub within : at < length m.triplets
  pub row : slice_index (map (λ t. t.0) m.triplets) at ≡ i
  pub column : slice_index (map (λ t. t.1) m.triplets) at ≡ j

-- lane k has one entry, at the minor index that element k of the list gives
abbrev pub HasOneEntryPerLane : Raw → List ℕ → Type 0
HasOneEntryPerLane p indices = (k i : ℕ)
    → IsEntry p k i ↔ ((k < length indices) × (slice_index indices k ≡ i))

-- the list is 0, 1, .., last
pub record AreNumbersTo (numbers : List ℕ) (last : ℕ) : Type 0 where
  pub count : length numbers ≡ last + 1
  pub each : (k : ℕ) → k ≤ last → slice_index numbers k ≡ k
