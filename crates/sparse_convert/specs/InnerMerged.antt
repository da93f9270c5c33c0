-- Lanes with each index once.
use Rattle.std.specs.Prelude.{◌≡◌, ℕ, ◌+◌, ◌-◌, ◌<◌, ◌≤◌, true, List, length, nat_eq, slice_index}
use Rattle.std.specs.Prelude.{slice_index_or}
use Rattle.std.specs.List.{list_any}
use Rattle.sparse_algebra.specs.Algebra.{CommRing}
use Rattle.sparse_convert.specs.InnerTripletLanes.{AreOffsets, index_sum}

-- from offset start to end the arrays have the indices of the lane's entries, each once and
-- increasing, and for each index the sum of the values
pub record AreMerged (R : CommRing) {T : Type 0} (f : T → R.Carrier) (zero : T)
    (lane : List (ℕ × T)) (indices : List ℕ) (values : List T) (start end : ℕ) : Type 0 where
  pub rising : (p : ℕ) → start < p → p < end → slice_index indices (p - 1) < slice_index indices p
  pub named : (p : ℕ) → start ≤ p → p < end
      → list_any (λ e. nat_eq e.0 (slice_index indices p)) lane ≡ true
  pub found : (j : ℕ) → list_any (λ e. nat_eq e.0 j) lane ≡ true
      → (p : ℕ) × (start ≤ p) × (p < end) × (slice_index indices p ≡ j)
  pub sums : (p : ℕ) → start ≤ p → p < end
      → f (slice_index_or values p zero) ≡ index_sum R f lane (slice_index indices p)

-- the first n elements are the same
abbrev pub KeepsFirst : {X : Type 0} → X → ℕ → List X → List X → Type 0
KeepsFirst zero n xs ys = (p : ℕ) → p < n → slice_index_or ys p zero ≡ slice_index_or xs p zero

-- the arrays hold n lanes; lane i has the entries `lane i`, where those with the same index are
-- added
pub record AreLanesMerged (R : CommRing) {T : Type 0} (f : T → R.Carrier) (zero : T)
    (lane : ℕ → List (ℕ × T)) (n : ℕ) (starts indices : List ℕ) (values : List T) : Type 0 where
  pub offsets : AreOffsets n (length indices) starts
  pub sizes : length values ≡ length indices
  pub merged : (i : ℕ) → i < n → AreMerged R f zero (lane i) indices values
      (slice_index starts i) (slice_index starts (i + 1))
