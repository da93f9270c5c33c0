-- Sparse vectors, given by lists of indices and values, and dense ones.
use Rattle.std.specs.Prelude.{◌≡◌, ℕ, ◌<◌, nat_eq, List, length, zip, slice_index_or}
use Rattle.sparse_algebra.specs.Algebra.{CommRing}
use Rattle.sparse_algebra.specs.Sums.{sum_by, where_true}

module _ (R : CommRing) {T : Type 0} (f : T → R.Carrier) where
  -- element i that a list represents; past the end of the list that of z
  abbrev pub elements : T → List T → ℕ → R.Carrier
  elements z xs i = f (slice_index_or xs i z)

  -- element j of a sparse vector: the sum of the values whose index is j
  abbrev pub sparse_elements : List ℕ → List T → ℕ → R.Carrier
  sparse_elements indices values j = sum_by R (λ t. where_true R (nat_eq t.0 j) (f t.1))
      (zip indices values)

  -- each element of the new list is the old one plus c times that of the vector
  abbrev pub AddsMultiple : T → R.Carrier → (ℕ → R.Carrier) → List T → List T → Type 0
  AddsMultiple z c vector old new = (j : ℕ) → j < length old
      → elements z new j ≡ R.add (elements z old j) (R.mul c (vector j))
