-- The rank of a matrix, and the rings over which an elimination finds it.
use Rattle.std.specs.Prelude.{◌≡◌, ◌≢◌, ℕ, ◌≤◌}
use Rattle.sparse_algebra.specs.Algebra.{CommRing}
use Rattle.sparse_algebra.specs.Plain.{Plain, plain_product}
use Rattle.sparse_algebra.specs.Inverses.{HasInverse}
use Rattle.sparse_dense_ops.specs.Solutions.{HasSameValues}

module _ (R : CommRing) where
  -- a is the product of b and c, where b has s columns and c has s rows
  pub record IsProductThrough (s : ℕ) (a b c : Plain R) : Type 0 where
    pub rows : b.rows ≡ a.rows
    pub inner_cols : b.cols ≡ s
    pub inner_rows : c.rows ≡ s
    pub cols : c.cols ≡ a.cols
    pub equation : HasSameValues R a.rows a.cols (plain_product R b c) a

  -- a is a product of two matrices with the inner size s
  abbrev pub IsFactoredThrough : ℕ → Plain R → Type 0
  IsFactoredThrough s a = (b : Plain R) × (c : Plain R) × IsProductThrough s a b c

  -- r is the least inner size of a product that is a
  pub record HasRank (a : Plain R) (r : ℕ) : Type 0 where
    pub factored : IsFactoredThrough r a
    pub least : (s : ℕ) → IsFactoredThrough s a → r ≤ s

  module _ {T : Type 0} (f : T → R.Carrier) where
    -- one is not zero, and every element that is not zero has an inverse
    pub record IsField : Type 0 where
      pub nonzero : R.one ≢ R.zero
      pub inverse : (e : R.Carrier) → e ≢ R.zero → HasInverse R f e

    -- one is not zero, and a sum of two elements without inverses has none
    pub record IsLocal : Type 0 where
      pub nonzero : R.one ≢ R.zero
      pub sum : (d e : R.Carrier) → ¬ HasInverse R f d → ¬ HasInverse R f e
          → ¬ HasInverse R f (R.add d e)
