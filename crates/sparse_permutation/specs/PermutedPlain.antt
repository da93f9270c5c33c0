-- Plain matrices whose rows, or rows and columns, are permuted.
use Rattle.std.specs.Prelude.{◌≡◌, ℕ, nat_lt, ◌&&◌, List, slice_index}
use Rattle.sparse_algebra.specs.Algebra.{CommRing}
use Rattle.sparse_algebra.specs.Sums.{where_true}
use Rattle.sparse_algebra.specs.Plain.{Plain, plain_transpose}

module _ (R : CommRing) where
  -- P A, where P is the matrix of the permutation p: the same shape, and in row i the row p i of a
  abbrev pub plain_rows_permuted : List ℕ → Plain R → Plain R
  plain_rows_permuted p a = record {
    rows = a.rows;
    cols = a.cols;
    has = λ i j. nat_lt i a.rows && a.has (slice_index p i) j;
    value = λ i j. where_true R (nat_lt i a.rows) (a.value (slice_index p i) j);
  }

  -- P A Pᵀ: the same shape, and at (i, j) what a has at (p i, p j)
  abbrev pub plain_permuted : List ℕ → Plain R → Plain R
  plain_permuted p a = record {
    rows = a.rows;
    cols = a.cols;
    has = λ i j. (nat_lt i a.rows && nat_lt j a.cols) && a.has (slice_index p i) (slice_index p j);
    value = λ i j. where_true R (nat_lt i a.rows && nat_lt j a.cols)
        (a.value (slice_index p i) (slice_index p j));
  }

  -- places and values are the same at (i, j) and at (j, i)
  abbrev pub IsSymmetric : Plain R → Type 0
  IsSymmetric a = plain_transpose R a ≡ a
