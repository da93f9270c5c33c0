-- The plain matrix of a coordinate list.
use Rattle.sparse_algebra.specs.Algebra.{CommRing}
use Rattle.sparse_algebra.specs.Plain.{Plain, plain_of_triplets}
use Rattle.sparse_coo_dense.specs.Coo.{Coo}

module _ (R : CommRing) {T : Type 0} (f : T → R.Carrier) where
  -- the values of triplets with the same row and column are added
  abbrev pub plain_of_coo : Coo T → Plain R
  plain_of_coo m = plain_of_triplets R f m.nrows m.ncols m.triplets
