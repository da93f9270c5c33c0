-- The indices and the values of a row of a product.
use Rattle.std.specs.Prelude.{◌≡◌, ℕ, ◌<◌, ◌++◌, ◌⊎◌, List, length, slice_index, slice_index_or}
use Rattle.std.specs.Prelude.{Contains}
use Rattle.sparse_algebra.specs.Algebra.{CommRing}
use Rattle.sparse_pattern.specs.Raw.{Raw, IsEntry, lane_of}
use Rattle.sparse_products.specs.declared.serial.multiplicands.Matrices.{Matrices}

-- lane k of d has the index j for some k of the list
abbrev pub IsInLanes : Raw → List ℕ → ℕ → Type 0
IsInLanes d lanes j = (k : ℕ) × Contains lanes k × IsEntry d k j

-- row i of the product has the index j
abbrev pub IsInRow : {T : Type 0} → Matrices T → ℕ → ℕ → Type 0
IsInRow x i j = IsInLanes x.b.now.pattern (lane_of x.a.now.pattern i) j

-- each element of the row represents zero
abbrev pub IsZeroRow : (R : CommRing) {T : Type 0} → (T → R.Carrier) → T → List T → Type 0
IsZeroRow R f z row = (j : ℕ) → f (slice_index_or row j z) ≡ R.zero

-- values that represent x at the indices of a lane are appended to the list
pub record GainsExtracted (R : CommRing) {T : Type 0} (f : T → R.Carrier) (z : T) (old new : List T)
    (lane : List ℕ) (x : ℕ → R.Carrier) : Type 0 where
  pub part : List T
  pub pushed : new ≡ old ++ part
  pub count : length part ≡ length lane
  pub values : (q : ℕ) → q < length lane
      → f (slice_index_or part q z) ≡ x (slice_index lane q)

-- the new row is the old one with z written at the indices of the lane
pub record IsExtracted {T : Type 0} (z : T) (lane : List ℕ) (old new : List T) : Type 0 where
  pub cleared : (j : ℕ) → (slice_index_or new j z ≡ z) ⊎ (Contains lane j → ⊥)
  pub kept : (j : ℕ) → (Contains lane j → ⊥) → slice_index_or new j z ≡ slice_index_or old j z
