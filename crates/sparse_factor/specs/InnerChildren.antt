-- Linked lists of columns, the children of a column. A head is a column's number plus one, or 0 at
-- the end of a list.
use Rattle.std.specs.Prelude.{◌≡◌, ◌≢◌, ℕ, suc, ◌≤◌, ◌⊎◌, ◌↔◌, List, slice_index, Contains}
use Rattle.sparse_factor.specs.InnerColumns.{IsRun, IsInRun, IsInTail}

-- the list that begins at a head contains a column
pub data IsOnList (nexts : List ℕ) : ℕ → ℕ → Type 0 where
  here : {k : ℕ} → IsOnList nexts (suc k) k
  next : {k m : ℕ} → IsOnList nexts (slice_index nexts k) m → IsOnList nexts (suc k) m

-- the link of each column leads to a column before it, or to the end of the list
abbrev pub AreFalling : List ℕ → Type 0
AreFalling nexts = (k : ℕ) → slice_index nexts k ≤ k

-- row i is in the tail of the column of the head
abbrev pub IsInTailOf : List ℕ → List ℕ → ℕ → ℕ → Type 0
IsInTailOf offsets rows head i = (k : ℕ) × (head ≡ suc k) × IsInTail offsets rows k i

-- from low to high the rows are a run, the tail of the column of the head
pub record IsTailRun (offsets rows : List ℕ) (head low high : ℕ) : Type 0 where
  pub run : IsRun rows low high
  pub has : (i : ℕ) → IsInRun rows low high i ↔ IsInTailOf offsets rows head i

-- row i is in the tail of a column on the list
abbrev pub IsInTails : List ℕ → List ℕ → List ℕ → ℕ → ℕ → Type 0
IsInTails offsets rows nexts head i =
    (k : ℕ) × IsOnList nexts head k × IsInTail offsets rows k i

-- `new` has the rows of `old` and those of the tails of all columns on the list but the longest,
-- and no row that is neither in `old` nor in a tail of the list
pub record HasOthers (offsets rows nexts : List ℕ) (first longest : ℕ) (old new : List ℕ) : Type 0
  where
    pub kept : (i : ℕ) → Contains old i → Contains new i
    pub sound : (i : ℕ) → Contains new i → Contains old i ⊎ IsInTails offsets rows nexts first i
    pub whole : (i k : ℕ) → IsOnList nexts first k → longest ≢ suc k → IsInTail offsets rows k i
        → Contains new i
