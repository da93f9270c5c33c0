-- The offset of an entry, and the entry at a pair of indices.
use Rattle.std.specs.Prelude.{◌≡◌, ℕ, ◌+◌, ◌<◌, ◌==◌, Option, Some, None, option_map, position}
use Rattle.std.specs.Prelude.{slice_index_or}
use Rattle.sparse_pattern.specs.Raw.{Raw, start_of, lane_of}
use Rattle.sparse_pattern.specs.declared.entry.SparseEntry.{SparseEntry}
use Rattle.sparse_pattern.specs.declared.entry.SparseEntry.TheVariants.{NonZero, Zero}
use Rattle.sparse_compressed.specs.Compressed.{Compressed}

-- the offset of the entry (i, j), or None if it is not stored
abbrev pub find_offset : Raw → ℕ → ℕ → Option ℕ
find_offset d i j = option_map (λ k. start_of d i + k) (position (λ x. x == j) (lane_of d i))

-- both indices are within bounds
pub record IsInBounds (d : Raw) (i j : ℕ) : Type 0 where
  pub major : i < d.major_dim
  pub minor : j < d.minor_dim

module _ {T : Type 0} where
  -- the value at the offset of the entry (i, j), or Zero if it is not stored
  abbrev pub IsEntryAt : Compressed T → ℕ → ℕ → SparseEntry T → Type 0
  IsEntryAt m i j (NonZero x) = (p : ℕ) × (find_offset m.pattern i j ≡ Some p)
      × (x.now ≡ slice_index_or m.values p x.now)
  IsEntryAt m i j Zero = find_offset m.pattern i j ≡ None

  -- the entry at a pair within bounds, and None out of bounds
  abbrev pub IsEntryOf : Compressed T → ℕ → ℕ → Option (SparseEntry T) → Type 0
  IsEntryOf m i j (Some entry) = IsInBounds m.pattern i j × IsEntryAt m i j entry
  IsEntryOf m i j None = ¬ IsInBounds m.pattern i j
