-- The plain matrix of a dense matrix.
use Rattle.std.specs.Prelude.{ℕ, nat_lt, ◌&&◌, Bool, map}
use Rattle.sparse_algebra.specs.Algebra.{CommRing}
use Rattle.sparse_algebra.specs.Sums.{where_true}
use Rattle.sparse_algebra.specs.Plain.{Plain}
use Rattle.sparse_coo_dense.specs.Dense.{Dense, dense_of, value_at}

-- whether (i, j) lies within the shape
abbrev pub is_inside : {T : Type 0} → Dense T → ℕ → ℕ → Bool
is_inside d i j = nat_lt i d.nrows && nat_lt j d.ncols

-- its places are all pairs within the shape, also those of value zero; its value is that of the
-- stored scalar, and zero outside
abbrev pub plain_of_dense : (R : CommRing) {T : Type 0} → (T → R.Carrier) → Dense T → Plain R
plain_of_dense R f d = record {
  rows = d.nrows;
  cols = d.ncols;
  has = is_inside d;
  value = λ i j. where_true R (is_inside d i j)
      (value_at (dense_of d.nrows d.ncols (map f d.values)) i j R.zero);
}

-- the plain matrix with the same values and every pair within the shape as a place
abbrev pub plain_full : (R : CommRing) → Plain R → Plain R
plain_full R a = record {
  rows = a.rows;
  cols = a.cols;
  has = λ i j. nat_lt i a.rows && nat_lt j a.cols;
  value = a.value;
}
