-- Products of the pivots of a factorisation L D Lᵀ.
use Rattle.std.specs.Prelude.{◌≡◌, ℕ, zero, suc}
use Rattle.nalgebra_sparse.specs.Algebra.{CommRing}
use Rattle.nalgebra_sparse.specs.Plain.{Plain}
use Rattle.nalgebra_sparse.specs.Compressed.{Compressed}
use Rattle.nalgebra_sparse.specs.Factorisations.{IsFactorisation}
use Rattle.nalgebra_sparse.specs.Factors.{symmetric_of}

-- f 0 * f 1 * .. * f (n - 1)
abbrev pub product_below : (R : CommRing) → ℕ → (ℕ → R.Carrier) → R.Carrier
product_below R zero f = R.one
product_below R (suc n) f = R.mul (product_below R n f) (f n)

module _ (R : CommRing) {T : Type 0} (f : T → R.Carrier) (a : Compressed T) where
  -- the symmetric matrix with the entries of a on and above the diagonal is some L D Lᵀ
  abbrev pub HasFactors : Type 0
  HasFactors = (l : Plain R) × ((d : ℕ → R.Carrier) × IsFactorisation R f (symmetric_of R f a) l d)

  -- whenever it is L D Lᵀ, c is the product of the diagonal of D
  abbrev pub IsPivotProduct : R.Carrier → Type 0
  IsPivotProduct c = (l : Plain R) (d : ℕ → R.Carrier)
      → IsFactorisation R f (symmetric_of R f a) l d
      → c ≡ product_below R a.pattern.minor_dim d
