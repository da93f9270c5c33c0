-- Matrices as arrays of C. An integer represents that many times the one of the ring.
use Rattle.std.specs.Prelude.{◌≡◌, ◌≤◌, ℕ, ℤ, ◌+◌, ◌*◌, List, length, take}
use Rattle.std.specs.Int.{w64}
use Rattle.sparse_algebra.specs.Algebra.{CommRing}
use Rattle.sparse_algebra.specs.Wrapping.{wrapping_ring}
use Rattle.sparse_algebra.specs.Plain.{Plain, plain_of_triplets, plain_transpose, row_order}
use Rattle.sparse_pattern.specs.Raw.{Raw}
use Rattle.sparse_coo_dense.specs.Coo.{zip_triplets}
use Rattle.sparse_coo_dense.specs.Dense.{dense_of}
use Rattle.sparse_coo_dense.specs.DensePlain.{plain_of_dense}
use Rattle.sparse_compressed.specs.Compressed.{Compressed, arrays_of, IsSound}
use Rattle.sparse_compressed.specs.PlainOfLanes.{plain_of_rows, plain_of_cols}
use Rattle.sparse_algebra.specs.Integers.{element_of}

-- the arrays that C passes for a matrix, and the variable for its number of entries
pub record OutputArrays : Type 0 where
  pub offsets : List ℕ
  pub indices : List ℕ
  pub values : List ℤ
  pub places : ℕ

abbrev pub output_arrays : List ℕ → List ℕ → List ℤ → ℕ → OutputArrays
output_arrays offsets indices values places =
    record { offsets = offsets; indices = indices; values = values; places = places }

-- the matrix of this shape at the beginning of the arrays
abbrev pub matrix_in : ℕ → ℕ → OutputArrays → Compressed ℤ
matrix_in rows cols r = arrays_of rows cols (take (rows + 1) r.offsets) (take r.places r.indices)
    (take r.places r.values)

-- the number of places of a plain matrix
abbrev pub place_count : {R : CommRing} → Plain R → ℕ
place_count {R} a = length (row_order R a)

module _ (R : CommRing) where
  -- the plain matrix of arrays by rows
  abbrev pub plain_by_rows : Compressed ℤ → Plain R
  plain_by_rows m = plain_of_rows R (element_of R) m

  -- the plain matrix of arrays by columns
  abbrev pub plain_by_cols : Compressed ℤ → Plain R
  plain_by_cols m = plain_of_cols R (element_of R) m

  -- the plain matrix of values given column by column
  abbrev pub plain_by_values : ℕ → ℕ → List ℤ → Plain R
  plain_by_values rows cols values = plain_of_dense R (element_of R) (dense_of rows cols values)

  -- the plain matrix of arrays of rows, columns and values, with triplets at the same row and column added
  abbrev pub plain_of_lists : ℕ → ℕ → List ℕ → List ℕ → List ℤ → Plain R
  plain_of_lists rows cols is js vs =
      plain_of_triplets R (element_of R) rows cols (zip_triplets is js vs)

-- the arrays begin with those of a matrix by rows whose plain matrix is a
pub record HoldsRows {R : CommRing} (a : Plain R) (r : OutputArrays) : Type 0 where
  pub sound : IsSound (matrix_in a.rows a.cols r)
  pub plain : plain_by_rows R (matrix_in a.rows a.cols r) ≡ a
  pub places : r.places ≡ place_count a

-- the same by columns, which are the rows of the transpose
abbrev pub HoldsCols : {R : CommRing} → Plain R → OutputArrays → Type 0
HoldsCols {R} a r = HoldsRows (plain_transpose R a) r

-- the array begins with the values of a, column by column
pub record HoldsDense {R : CommRing} (a : Plain R) (values : List ℤ) : Type 0 where
  pub plain : plain_by_values R a.rows a.cols (take (a.rows * a.cols) values) ≡ a
  pub room : a.rows * a.cols ≤ length values

-- the arrays that C passes for a pattern, and the variable for its number of entries
pub record PatternOutputArrays : Type 0 where
  pub offsets : List ℕ
  pub indices : List ℕ
  pub places : ℕ

abbrev pub pattern_output_arrays : List ℕ → List ℕ → ℕ → PatternOutputArrays
pattern_output_arrays offsets indices places =
    record { offsets = offsets; indices = indices; places = places }

-- the arrays begin with those of the pattern
pub record HoldsPattern (d : Raw) (r : PatternOutputArrays) : Type 0 where
  pub offsets : take (length d.offsets) r.offsets ≡ d.offsets
  pub indices : take (length d.indices) r.indices ≡ d.indices
  pub places : r.places ≡ length d.indices

-- the integers modulo 2^64
abbrev pub ring64 : CommRing
ring64 = wrapping_ring w64
