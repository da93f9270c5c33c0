-- Factorisations of the symmetric matrix that the upper triangle of a dense matrix gives.
use Rattle.std.specs.Prelude.{ℕ, List}
use Rattle.sparse_algebra.specs.Algebra.{CommRing}
use Rattle.sparse_algebra.specs.Plain.{Plain}
use Rattle.sparse_coo_dense.specs.Dense.{Dense}
use Rattle.sparse_coo_dense.specs.DensePlain.{plain_of_dense}
use Rattle.sparse_factor.specs.Factorisations.{IsFactorisation, plain_symmetric}
use Rattle.sparse_factor.specs.Factors.{diagonal}

module _ (R : CommRing) {T : Type 0} (f : T → R.Carrier) where
  -- the symmetric matrix with the entries of a on and above the diagonal
  abbrev pub dense_symmetric : Dense T → Plain R
  dense_symmetric a = plain_symmetric R (plain_of_dense R f a)

  abbrev pub HasNoDenseFactors : Dense T → Type 0
  HasNoDenseFactors a = (l : Plain R) (d : ℕ → R.Carrier)
      → IsFactorisation R f (dense_symmetric a) l d → ⊥

  abbrev pub AreDenseFactorsOf : T → Dense T → Dense T → List T → Type 0
  AreDenseFactorsOf z a l d =
      IsFactorisation R f (dense_symmetric a) (plain_of_dense R f l) (diagonal R f z d)
