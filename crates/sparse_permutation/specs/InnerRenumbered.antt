-- Triplets whose rows and columns are renumbered.
use Rattle.std.specs.Prelude.{ℕ, List, map, slice_index}
use Rattle.sparse_coo_dense.specs.Coo.{Coo, coo_of}

module _ {T : Type 0} where
  -- a triplet with the row q r in place of r, and the column q c in place of c
  abbrev pub renumbered : List ℕ → ℕ × ℕ × T → ℕ × ℕ × T
  renumbered q t = (slice_index q t.0, slice_index q t.1, t.2)

  -- the list with all triplets renumbered
  abbrev pub renumbered_coo : List ℕ → Coo T → Coo T
  renumbered_coo q m = coo_of m.nrows m.ncols (map (renumbered q) m.triplets)
