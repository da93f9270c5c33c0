-- Borrowed lists of triplets, as one list and as a plain matrix.
use Rattle.std.specs.Prelude.{◌≡◌, ℕ, List, take, drop}
use Rattle.sparse_algebra.specs.Algebra.{CommRing}
use Rattle.sparse_algebra.specs.Plain.{Plain, plain_of_triplets}
use Rattle.sparse_coo_dense.specs.Coo.{zip_triplets}
use Rattle.sparse_pattern.specs.Counting.{count_at, count_below}
use Rattle.sparse_convert.specs.InnerTripletLanes.{triplets_of_lane}
use Rattle.sparse_convert.specs.declared.borrowed.Triplets.{Triplets}

module _ {T : Type 0} (t : Triplets T) where
  abbrev pub list_of : List (ℕ × ℕ × T)
  list_of = zip_triplets t.majors.now t.minors.now t.values.now

  -- the sum of the triplets at each place
  abbrev pub plain_of_list : (R : CommRing) → (T → R.Carrier) → Plain R
  plain_of_list R f = plain_of_triplets R f t.major_dim t.minor_dim list_of

  -- the entries of each lane, stored after those of the lanes before it
  abbrev pub AreStored : List (ℕ × T) → Type 0
  AreStored entries = (i : ℕ)
      → take (count_at i t.majors.now) (drop (count_below i t.majors.now) entries)
      ≡ triplets_of_lane list_of i
