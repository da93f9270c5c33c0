-- Exact factorisations L D Lᵀ of symmetric matrices.
use Rattle.std.specs.Prelude.{◌≡◌, ℕ, ◌<◌, nat_eq, nat_lt, nat_le, ◌&&◌, min, max}
use Rattle.sparse_algebra.specs.Algebra.{CommRing}
use Rattle.sparse_algebra.specs.Sums.{where_true}
use Rattle.sparse_algebra.specs.Plain.{Plain, plain_kept, plain_product, plain_transpose}
use Rattle.sparse_algebra.specs.Inverses.{HasInverse}
use Rattle.sparse_dense_ops.specs.Solutions.{HasSameValues}

module _ (R : CommRing) where
  -- the upper triangle: the matrix on the pairs with row at most column
  abbrev pub plain_upper : Plain R → Plain R
  plain_upper a = plain_kept R (λ i j. nat_le i j) a

  -- the symmetric matrix whose entries on and above the diagonal are those of a: at (i, j) it is
  -- what a is at (min(i, j), max(i, j))
  abbrev pub plain_symmetric : Plain R → Plain R
  plain_symmetric a = record {
    rows = a.rows;
    cols = a.cols;
    has = λ i j. a.has (min i j) (max i j);
    value = λ i j. a.value (min i j) (max i j);
  }

  -- the diagonal matrix with these n values
  abbrev pub plain_diagonal : ℕ → (ℕ → R.Carrier) → Plain R
  plain_diagonal n d = record {
    rows = n;
    cols = n;
    has = λ i j. nat_eq i j && nat_lt i n;
    value = λ i j. where_true R (nat_eq i j && nat_lt i n) (d i);
  }

  -- L D Lᵀ, where d is the diagonal of D
  abbrev pub plain_ldl : Plain R → (ℕ → R.Carrier) → Plain R
  plain_ldl l d = plain_product R (plain_product R l (plain_diagonal l.cols d))
      (plain_transpose R l)

  -- square, with ones on the diagonal and zeros above it
  pub record IsUnitLower (l : Plain R) : Type 0 where
    pub square : l.cols ≡ l.rows
    pub unit : (j : ℕ) → j < l.rows → l.value j j ≡ R.one
    pub upper : (i j : ℕ) → i < j → j < l.rows → l.value i j ≡ R.zero

  -- m is L D Lᵀ, where L is unit lower triangular and each entry of the diagonal D has an inverse
  pub record IsFactorisation {T : Type 0} (f : T → R.Carrier) (m l : Plain R)
      (d : ℕ → R.Carrier) : Type 0 where
    pub rows : l.rows ≡ m.rows
    pub lower : IsUnitLower l
    pub pivots : (j : ℕ) → j < m.rows → HasInverse R f (d j)
    pub equation : HasSameValues R m.rows m.rows (plain_ldl l d) m
