-- Values borrowed mutably, and the matrix after the borrow.
use Rattle.std.specs.Prelude.{◌≡◌, ℕ, ◌<◌, ◌≤◌, ◌==◌, List, Option, Some, None, length, position}
use Rattle.std.specs.Prelude.{slice_set, slice_index_or, unwrap_or}
use Rattle.std.specs.Borrow.{Lends, follows_if, MutBor, Fml, Array, RattleType}
use Rattle.sparse_pattern.specs.Raw.{start_of}
use Rattle.sparse_pattern.specs.Refill.{refill, refill_from}
use Rattle.sparse_pattern.specs.SparseEntries.{found_name, indexed_name}
use Rattle.sparse_pattern.specs.declared.entry.SparseEntry.{SparseEntry}
use Rattle.sparse_pattern.specs.declared.entry.SparseEntry.TheVariants as entry
use Rattle.sparse_pattern.specs.declared.entry.SparseEntryMut.{SparseEntryMut}
use Rattle.sparse_pattern.specs.declared.entry.SparseEntryMut.TheVariants.{NonZero, Zero}
use Rattle.sparse_pattern.specs.declared.entry.Found.{Found}
use Rattle.sparse_pattern.specs.declared.entry.Found.TheVariants.{Value, Nothing}
use Rattle.sparse_pattern.specs.declared.entry.Missing.TheVariants.{OutOfBounds, NotStored}
use Rattle.sparse_compressed.specs.Compressed.{Compressed}
use Rattle.sparse_compressed.specs.StoredEntries.{IsInBounds, find_offset}
use Rattle.sparse_compressed.specs.Lanes.{Lane}
use Rattle.sparse_compressed.specs.contracts.CsMatrix.{the_row}

-- the offset of the index j from the start of a lane, or None if it is not stored
abbrev pub index_in : List ℕ → ℕ → Option ℕ
index_in indices j = position (λ i. i == j) indices

module _ {T : Type 0} where
  -- the matrix with other values
  abbrev pub with_values : Compressed T → List T → Compressed T
  with_values m ws = record m { values = refill m.values ws }

  -- the matrix with other values in lane i
  abbrev pub with_lane : Compressed T → ℕ → List T → Compressed T
  with_lane m i ws = record m { values = refill_from m.values (start_of m.pattern i) ws }

  -- the matrix with another value at the entry (i, j)
  abbrev pub with_value : Compressed T → ℕ → ℕ → T → Compressed T
  with_value m i j w = record m {
    values = slice_set m.values (unwrap_or (find_offset m.pattern i j) 0)
        w;
  }

  -- the entry (i, j) is stored, and x has its value
  pub record IsValueAt (m : Compressed T) (i j : ℕ) (x : MutBor T) : Type 0 where
    pub offset : ℕ
    pub stored : find_offset m.pattern i j ≡ Some offset
    pub value : x.now ≡ slice_index_or m.values offset x.now

  -- the value at the pair, or that none is stored there, or that the pair is out of bounds
  abbrev pub IsFoundAt : Compressed T → ℕ → ℕ → Found T → Type 0
  IsFoundAt m i j (Value x) = IsInBounds m.pattern i j × IsValueAt m i j x
  IsFoundAt m i j (Nothing NotStored) = IsInBounds m.pattern i j × (find_offset m.pattern i j ≡ None)
  IsFoundAt m i j (Nothing OutOfBounds) = ¬ IsInBounds m.pattern i j

  -- the entry at the pair, or Zero if none is stored
  abbrev pub IsEntryMutAt : Compressed T → ℕ → ℕ → SparseEntryMut T → Type 0
  IsEntryMutAt m i j (NonZero x) = IsValueAt m i j x
  IsEntryMutAt m i j Zero = find_offset m.pattern i j ≡ None

  -- the entry at a pair within bounds, and None out of bounds
  abbrev pub IsEntryMutOf : Compressed T → ℕ → ℕ → Option (SparseEntryMut T) → Type 0
  IsEntryMutOf m i j (Some entry) = IsInBounds m.pattern i j × IsEntryMutAt m i j entry
  IsEntryMutOf m i j None = ¬ IsInBounds m.pattern i j

  -- the index j is at this offset of the lane, and there is a value at the offset
  pub record IsStoredIn (l : Lane T) (j offset : ℕ) : Type 0 where
    pub index : index_in l.indices j ≡ Some offset
    pub within : offset < length l.values

  -- the index j is stored, and x has its value
  pub record IsLaneValueAt (l : Lane T) (j : ℕ) (x : MutBor T) : Type 0 where
    pub offset : ℕ
    pub stored : IsStoredIn l j offset
    pub value : x.now ≡ slice_index_or l.values offset x.now

  -- the value at the index, or that none is stored there, or that the index is out of bounds
  abbrev pub IsLaneFoundAt : Lane T → ℕ → Found T → Type 0
  IsLaneFoundAt l j (Value x) = (j < l.minor_dim) × IsLaneValueAt l j x
  IsLaneFoundAt l j (Nothing NotStored) = (j < l.minor_dim) × ((p : ℕ) → ¬ IsStoredIn l j p)
  IsLaneFoundAt l j (Nothing OutOfBounds) = l.minor_dim ≤ j

  -- the entry at the index, Zero if none is stored, None if the index is out of bounds
  abbrev pub IsLaneEntryMutOf : Lane T → ℕ → Option (SparseEntryMut T) → Type 0
  IsLaneEntryMutOf l j (Some (NonZero x)) = (j < l.minor_dim) × IsLaneValueAt l j x
  IsLaneEntryMutOf l j (Some Zero) = (j < l.minor_dim) × ((p : ℕ) → ¬ IsStoredIn l j p)
  IsLaneEntryMutOf l j None = l.minor_dim ≤ j

  -- the same entry, for reading
  abbrev pub IsMutLaneEntryOf : Lane T → ℕ → Option (SparseEntry T) → Type 0
  IsMutLaneEntryOf l j (Some (entry.NonZero x)) = (j < l.minor_dim)
      × ((p : ℕ) × IsStoredIn l j p × (x.now ≡ slice_index_or l.values p x.now))
  IsMutLaneEntryOf l j (Some entry.Zero) = (j < l.minor_dim) × ((p : ℕ) → ¬ IsStoredIn l j p)
  IsMutLaneEntryOf l j None = l.minor_dim ≤ j

module _ (T : RattleType) (s : MutBor (Compressed T.Denot)) where
  -- after the borrow the matrix has the values last written through the slice
  abbrev pub LendsValues : MutBor (List T.Denot) → Fml
  LendsValues r = Lends (the_row T) (Array T 0) s r (with_values s.now)

  -- after the borrow lane i has the values last written through the slice
  abbrev pub LendsLane : ℕ → MutBor (List T.Denot) → Fml
  LendsLane i r = Lends (the_row T) (Array T 0) s r (with_lane s.now i)

  -- after the borrow the matrix has the value last written through the reference, or is unchanged
  -- if there is none
  abbrev pub LendsFound : ℕ → ℕ → Found T.Denot → Fml
  LendsFound i j r = follows_if (the_row T) T s.ghost_name (found_name r) (with_value s.now i j)
      s.now

  abbrev pub LendsIndexed : ℕ → ℕ → SparseEntryMut T.Denot → Fml
  LendsIndexed i j r = follows_if (the_row T) T s.ghost_name (indexed_name r) (with_value s.now i j)
      s.now

-- after the borrow the slice has the element last written through the reference
abbrev pub LendsElement : (T : RattleType) → MutBor (List T.Denot) → ℕ → MutBor T.Denot → Fml
LendsElement T s k r = Lends (Array T 0) T s r (λ w. slice_set s.now k w)
