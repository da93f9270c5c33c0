-- A plain matrix that has the shape, the places and the values of compressed arrays.
use Rattle.std.specs.Prelude.{◌≡◌, ℕ, ◌↔◌, true, slice_index_or}
use Rattle.sparse_algebra.specs.Algebra.{CommRing}
use Rattle.sparse_algebra.specs.Plain.{Plain, IsProper, IsWithin}
use Rattle.sparse_pattern.specs.Raw.{IsEntry}
use Rattle.sparse_compressed.specs.Compressed.{Compressed, IsOffset}

module _ (R : CommRing) {T : Type 0} (f : T → R.Carrier) where
  -- lanes are rows: (i, j) is a place if and only if lane i has the index j, and the value there is
  -- the value of that entry
  pub record HasLanesAsRows (m : Compressed T) (a : Plain R) : Type 0 where
    pub rows : m.pattern.major_dim ≡ a.rows
    pub cols : m.pattern.minor_dim ≡ a.cols
    pub places : (i j : ℕ) → IsEntry m.pattern i j ↔ (a.has i j ≡ true)
    pub values : (i j p : ℕ) (z : T) → IsOffset m.pattern i j p
        → f (slice_index_or m.values p z) ≡ a.value i j
    pub within : IsWithin a
    pub proper : IsProper a

  -- lanes are columns: (i, j) is a place if and only if lane j has the index i, and the value there
  -- is the value of that entry
  pub record HasLanesAsCols (m : Compressed T) (a : Plain R) : Type 0 where
    pub rows : m.pattern.minor_dim ≡ a.rows
    pub cols : m.pattern.major_dim ≡ a.cols
    pub places : (i j : ℕ) → IsEntry m.pattern j i ↔ (a.has i j ≡ true)
    pub values : (i j p : ℕ) (z : T) → IsOffset m.pattern j i p
        → f (slice_index_or m.values p z) ≡ a.value i j
    pub within : IsWithin a
    pub proper : IsProper a
