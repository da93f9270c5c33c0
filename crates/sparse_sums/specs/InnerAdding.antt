-- Sums of two lanes of indices and values.
use Rattle.std.specs.Prelude.{◌≡◌, ℕ, ◌⊎◌, ◌↔◌, Bool, List, ◌++◌, length, take, Contains}
use Rattle.std.specs.List.Sorted.{IsStrictlyIncreasing}
use Rattle.sparse_algebra.specs.Algebra.{CommRing}
use Rattle.sparse_compressed.specs.Compressed.{Compressed, arrays_of}
use Rattle.sparse_compressed.specs.InnerLaneValue.{lane_value}
use Rattle.sparse_compressed.specs.Lanes.{Lane}
use Rattle.sparse_sums.specs.InnerMerging.{IsMerging}
use Rattle.sparse_sums.specs.InnerSigns.{signed}

-- the arrays as a matrix with the shape of a
abbrev pub with_arrays : {T : Type 0} → Compressed T → List ℕ → List ℕ → List T → Compressed T
with_arrays a offsets indices values =
    arrays_of a.pattern.major_dim a.pattern.minor_dim offsets indices values

-- strictly increasing indices, with one value for each
pub record IsLane {T : Type 0} (indices : List ℕ) (values : List T) : Type 0 where
  pub rising : IsStrictlyIncreasing indices
  pub count : length values ≡ length indices

module _ (R : CommRing) {T : Type 0} (f : T → R.Carrier) where
  -- the lists have gained a lane at their end: the indices for which P holds, strictly increasing, and values whose sum
  -- at j is V j
  pub record GainsEntries (old new : List ℕ) (old_values new_values : List T) (P : ℕ → Type 0)
      (V : ℕ → R.Carrier) : Type 0 where
    pub lane : List ℕ
    pub values : List T
    pub pushed : new ≡ old ++ lane
    pub values_pushed : new_values ≡ old_values ++ values
    pub count : length values ≡ length lane
    pub rising : IsStrictlyIncreasing lane
    pub holds : (j : ℕ) → Contains lane j ↔ P j
    pub sums : (j : ℕ) → lane_value R f lane values j ≡ V j

  -- the lists have gained the sum of two lanes, or their difference
  abbrev pub GainsLanes : Bool → Lane T → Lane T → List ℕ → List ℕ → List T → List T → Type 0
  GainsLanes negate a b old new old_values new_values = GainsEntries old new old_values new_values
      (λ j. Contains a.indices j ⊎ Contains b.indices j)
      (λ j. R.add (lane_value R f a.indices a.values j)
      (lane_value R (λ x. signed R negate (f x)) b.indices b.values j))

module _ (R : CommRing) where
  -- the element at j in a lane whose values are elements
  abbrev pub element_at : List ℕ → List R.Carrier → ℕ → R.Carrier
  element_at = lane_value R (λ x. x)

  -- the lists have gained the sum of two lanes of elements
  abbrev pub GainsSum : (old new : List ℕ) (old_values new_values : List R.Carrier) (a : List ℕ)
      (us : List R.Carrier) (b : List ℕ) (vs : List R.Carrier) → Type 0
  GainsSum old new old_values new_values a us b vs = GainsEntries R (λ x. x) old new old_values
      new_values (λ j. Contains a j ⊎ Contains b j)
      (λ j. R.add (element_at a us j) (element_at b vs j))

  -- the lists have gained the sum of the first p entries of one lane of elements and the first q of another
  pub record IsAdding (old new : List ℕ) (old_values new_values : List R.Carrier) (a : List ℕ)
      (us : List R.Carrier) (b : List ℕ) (vs : List R.Carrier) (p q : ℕ) : Type 0 where
    pub indices : IsMerging old new a b p q
    pub values : List R.Carrier
    pub values_pushed : new_values ≡ old_values ++ values
    pub count : length values ≡ length indices.lane
    pub sums : (j : ℕ) → element_at indices.lane values j
        ≡ R.add (element_at (take p a) (take p us) j) (element_at (take q b) (take q vs) j)
