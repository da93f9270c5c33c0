-- The first rows and columns of a plain matrix, and how many of them have factors.
use Rattle.std.specs.Prelude.{◌≡◌, ◌≤◌, ◌<◌, ℕ}
use Rattle.sparse_algebra.specs.Algebra.{CommRing}
use Rattle.sparse_algebra.specs.Plain.{Plain}
use Rattle.sparse_factor.specs.Factorisations.{IsFactorisation}

module _ (R : CommRing) where
  -- the first n rows and columns of a, of which nothing but the values in these rows and columns has an effect on a
  -- factorisation
  abbrev pub leading : ℕ → Plain R → Plain R
  leading n a = record { rows = n; cols = n; has = a.has; value = a.value }

  module _ {T : Type 0} (f : T → R.Carrier) where
    -- a is L D Lᵀ, where L is unit lower triangular and each entry of the diagonal D has an inverse
    abbrev pub HasFactorisation : Plain R → Type 0
    HasFactorisation a = (l : Plain R) × (d : ℕ → R.Carrier) × IsFactorisation R f a l d

    -- the first n rows and columns of a have a factorisation, and so have fewer of them; more have none
    pub record StopsAt (a : Plain R) (n : ℕ) : Type 0 where
      pub within : n ≤ a.rows
      pub before : (k : ℕ) → k ≤ n → HasFactorisation (leading k a)
      pub after : (k : ℕ) → n < k → k ≤ a.rows → HasFactorisation (leading k a) → ⊥
