-- Triangular systems of equations.
use Rattle.std.specs.Prelude.{◌≡◌, ℕ, ◌<◌, true, nat_le}
use Rattle.sparse_algebra.specs.Algebra.{CommRing}
use Rattle.sparse_algebra.specs.Plain.{Plain, plain_kept, plain_product}
use Rattle.sparse_coo_dense.specs.DensePlain.{plain_full}
use Rattle.sparse_algebra.specs.Inverses.{HasInverse}

module _ (R : CommRing) where
  -- the part of a matrix on and below the diagonal
  abbrev pub plain_lower : Plain R → Plain R
  plain_lower a = plain_kept R (λ i j. nat_le j i) a

  -- the product t x has the same values as b
  abbrev pub IsSolution : Plain R → Plain R → Plain R → Type 0
  IsSolution t x b = plain_full R (plain_product R t x) ≡ b

  -- (k, k) is a place, and its value has an inverse
  abbrev pub HasPivot : {T : Type 0} → (T → R.Carrier) → Plain R → ℕ → Type 0
  HasPivot f a k = (a.has k k ≡ true) × HasInverse R f (a.value k k)

  -- some diagonal entry is not stored or has no inverse
  abbrev pub IsSingular : {T : Type 0} → (T → R.Carrier) → Plain R → Type 0
  IsSingular f a = (k : ℕ) × (k < a.rows) × ¬ HasPivot f a k

  -- x and y have the same values at the pairs below n and m
  abbrev pub HasSameValues : ℕ → ℕ → Plain R → Plain R → Type 0
  HasSameValues n m x y = (i j : ℕ) → i < n → j < m → x.value i j ≡ y.value i j
