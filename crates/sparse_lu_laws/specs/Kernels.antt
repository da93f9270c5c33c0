-- The kernel of a matrix.
use Rattle.std.specs.Prelude.{◌≡◌, ℕ, ◌<◌, nat_eq, nat_lt, ◌&&◌, List, length, slice_index}
use Rattle.sparse_algebra.specs.Algebra.{CommRing}
use Rattle.sparse_algebra.specs.Sums.{where_true}
use Rattle.sparse_algebra.specs.Plain.{Plain, plain_product}
use Rattle.sparse_dense_ops.specs.Solutions.{HasSameValues}

module _ (R : CommRing) where
  -- the rows of a whose indices are listed, in the order of the list
  abbrev pub plain_rows_at : List ℕ → Plain R → Plain R
  plain_rows_at indices a = record {
    rows = length indices;
    cols = a.cols;
    has = λ s j. nat_lt s (length indices) && a.has (slice_index indices s) j;
    value = λ s j. where_true R (nat_lt s (length indices)) (a.value (slice_index indices s) j);
  }

  -- a x = 0
  abbrev pub IsNull : Plain R → Plain R → Type 0
  IsNull a x = (i j : ℕ) → i < a.rows → j < x.cols → (plain_product R a x).value i j ≡ R.zero

  -- a k = 0; the rows of k at the free indices are those of the identity; and each x with a x = 0 is k
  -- times the rows of x at the free indices
  pub record IsKernel (a k : Plain R) (free : List ℕ) : Type 0 where
    pub rows : k.rows ≡ a.cols
    pub cols : k.cols ≡ length free
    pub inside : (s : ℕ) → s < length free → slice_index free s < a.cols
    pub null : IsNull a k
    pub unit : (s t : ℕ) → s < length free → t < length free
        → k.value (slice_index free s) t ≡ where_true R (nat_eq s t) R.one
    pub all : (x : Plain R) → x.rows ≡ a.cols → IsNull a x
        → HasSameValues R a.cols x.cols (plain_product R k (plain_rows_at free x)) x
