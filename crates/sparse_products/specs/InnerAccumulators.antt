-- What adding the terms of a row changes: the accumulators, and the columns that are noted.
use Rattle.std.specs.Prelude.{◌≡◌, ℕ, ◌<◌, ◌↔◌, ◌⊎◌, List, length, slice_index_or}
use Rattle.sparse_algebra.specs.Algebra.{CommRing}
use Rattle.sparse_pattern.specs.Raw.{Raw, IsValid}
use Rattle.sparse_compressed.specs.Compressed.{IsOffset}

-- scale * x j is added to the accumulator p of each column j; other elements of the target stay
pub record AreAdded (R : CommRing) {T : Type 0} (f : T → R.Carrier) (z : T)
    (sum_at : ℕ → ℕ → Type 0) (scale : R.Carrier) (x : ℕ → R.Carrier) (old new : List T) :
    Type 0 where
  pub added : (j p : ℕ) → sum_at j p → p < length old
      → f (slice_index_or new p z) ≡ R.add (f (slice_index_or old p z)) (R.mul scale (x j))
  pub others : (p : ℕ) → ((j : ℕ) → sum_at j p → ⊥)
      → slice_index_or new p z ≡ slice_index_or old p z

-- the accumulators stay, and the noted columns are those before and the columns for which P holds
pub record AreNoted (sum_at sum_at' : ℕ → ℕ → Type 0) (before after P : ℕ → Type 0) : Type 0 where
  pub kept : (j p : ℕ) → sum_at' j p ↔ sum_at j p
  pub noted : (j : ℕ) → after j ↔ (before j ⊎ P j)

-- p is the offset of the entry (i, j) of a valid pattern
abbrev pub IsEntryOffset : Raw → ℕ → ℕ → ℕ → Type 0
IsEntryOffset d i j p = IsValid d × IsOffset d i j p
