-- Factorisations P A Q = L U of any matrix.
use Rattle.std.specs.Prelude.{◌≡◌, ℕ, ◌<◌, ◌≤◌, nat_lt, ◌&&◌, List, length, slice_index}
use Rattle.sparse_algebra.specs.Algebra.{CommRing}
use Rattle.sparse_algebra.specs.Sums.{where_true}
use Rattle.sparse_algebra.specs.Plain.{Plain, plain_product}
use Rattle.sparse_algebra.specs.Inverses.{HasInverse}
use Rattle.sparse_permutation.specs.Permutations.{IsOrder}
use Rattle.sparse_dense_ops.specs.Solutions.{HasSameValues}

module _ (R : CommRing) where
  -- P A Q, where P permutes the rows by p and Q the columns by q: the same shape, and at (i, j) what a
  -- has at (p i, q j)
  abbrev pub plain_permuted_both : List ℕ → List ℕ → Plain R → Plain R
  plain_permuted_both p q a = record {
    rows = a.rows;
    cols = a.cols;
    has = λ i j. (nat_lt i a.rows && nat_lt j a.cols) && a.has (slice_index p i) (slice_index q j);
    value = λ i j. where_true R (nat_lt i a.rows && nat_lt j a.cols)
        (a.value (slice_index p i) (slice_index q j));
  }

  -- l has r columns, with units on the diagonal and zeros above it; u has r rows, with ones on the
  -- diagonal and zeros below it
  pub record IsTrapezoidal {T : Type 0} (f : T → R.Carrier) (l u : Plain R) (r : ℕ) : Type 0 where
    pub lower_cols : l.cols ≡ r
    pub upper_rows : u.rows ≡ r
    pub tall : r ≤ l.rows
    pub wide : r ≤ u.cols
    pub units : (k : ℕ) → k < r → HasInverse R f (l.value k k)
    pub ones : (k : ℕ) → k < r → u.value k k ≡ R.one
    pub above : (i k : ℕ) → i < k → k < r → l.value i k ≡ R.zero
    pub below : (k j : ℕ) → j < k → k < r → u.value k j ≡ R.zero

  -- P A Q = L U with r pivots, where p and q are permutations of the rows and of the columns
  pub record IsLu {T : Type 0} (f : T → R.Carrier) (a l u : Plain R) (p q : List ℕ) (r : ℕ)
      : Type 0 where
    pub row_count : length p ≡ a.rows
    pub col_count : length q ≡ a.cols
    pub row_order : IsOrder p
    pub col_order : IsOrder q
    pub lower_rows : l.rows ≡ a.rows
    pub upper_cols : u.cols ≡ a.cols
    pub factors : IsTrapezoidal f l u r
    pub equation : HasSameValues R a.rows a.cols (plain_product R l u) (plain_permuted_both p q a)
