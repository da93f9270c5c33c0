-- The plain matrix of compressed lanes, read as rows or as columns.
use Rattle.std.specs.Prelude.{ℕ, List, map}
use Rattle.sparse_algebra.specs.Algebra.{CommRing}
use Rattle.sparse_algebra.specs.Plain.{Plain, plain_of_triplets, plain_transpose}
use Rattle.sparse_compressed.specs.Compressed.{Compressed, lane_triplets}

module _ (R : CommRing) {T : Type 0} (f : T → R.Carrier) where
  -- triplets with the ring elements that their values represent
  abbrev pub meant : List (ℕ × ℕ × T) → List (ℕ × ℕ × R.Carrier)
  meant ts = map (λ t. (t.0, t.1, f t.2)) ts

  -- the plain matrix of a compressed matrix whose lanes are rows
  abbrev pub plain_of_rows : Compressed T → Plain R
  plain_of_rows m = plain_of_triplets R f m.pattern.major_dim m.pattern.minor_dim (lane_triplets m)

  -- the plain matrix of a compressed matrix whose lanes are columns
  abbrev pub plain_of_cols : Compressed T → Plain R
  plain_of_cols m = plain_transpose R (plain_of_rows m)
