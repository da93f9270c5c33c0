-- The first fault of a list that is to be a permutation.
use Rattle.std.specs.Prelude.{◌≡◌, ℕ, ◌<◌, ◌≤◌, List, length, slice_index}
use Rattle.sparse_permutation.specs.Permutations.{IsNewIndex}
use Rattle.sparse_permutation.specs.declared.error.PermutationError.{PermutationError}
use Rattle.sparse_permutation.specs.declared.error.PermutationError.TheVariants.{IndexOutOfBounds}
use Rattle.sparse_permutation.specs.declared.error.PermutationError.TheVariants.{RepeatedIndex}
use Rattle.sparse_permutation.specs.declared.error.PermutationError.TheVariants.{OutOfMemory}

-- k is in the list, and the indices before it have no fault
pub record IsFirstAt (order : List ℕ) (k : ℕ) : Type 0 where
  pub inside : k < length order
  pub before : (l : ℕ) → l < k → IsNewIndex order l

-- the index at k is the first that is out of bounds or occurs before; that an allocation failed is no
-- fault of the list
abbrev pub IsFirstFault : List ℕ → PermutationError → Type 0
IsFirstFault order (IndexOutOfBounds k) = IsFirstAt order k × (length order ≤ slice_index order k)
IsFirstFault order (RepeatedIndex k) = IsFirstAt order k × (slice_index order k < length order)
    × ((l : ℕ) × (l < k) × (slice_index order l ≡ slice_index order k))
IsFirstFault order OutOfMemory = Unit {0}
