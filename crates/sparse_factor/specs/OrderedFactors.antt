-- The factors of a symmetric matrix whose rows and columns are permuted.
use Rattle.std.specs.Prelude.{◌≡◌, ℕ, ◌<◌, List, length, refl}
use Rattle.std.specs.Coded.{Coded, code_by, coded×, coded_ℕ, coded_list}
use Rattle.sparse_algebra.specs.Algebra.{CommRing}
use Rattle.sparse_algebra.specs.Plain.{Plain}
use Rattle.sparse_compressed.specs.Compressed.{Compressed}
use Rattle.sparse_compressed.specs.PlainOfLanes.{plain_of_cols}
use Rattle.sparse_dense_ops.specs.Solutions.{HasSameValues}
use Rattle.sparse_permutation.specs.Permutations.{IsOrder, IsInverse}
use Rattle.sparse_permutation.specs.PermutedPlain.{plain_permuted}
use Rattle.sparse_factor.specs.Factorisations.{IsFactorisation}
use Rattle.sparse_factor.specs.Fill.{InFill, PlainBase, StoresByColumns}
use Rattle.sparse_factor.specs.Factors.{Factors, factors_code, diagonal, plain_of_factors}
use Rattle.sparse_factor.specs.Factors.{symmetric_of}

-- the order of a permutation P, its inverse, and the factors of P A Pᵀ
pub record OrderedFactors (T : Type 0) : Type 0 where
  pub order : List ℕ
  pub inverse : List ℕ
  pub factors : Factors T

abbrev pub ordered_of : {T : Type 0} → List ℕ → List ℕ → Factors T → OrderedFactors T
ordered_of order inverse factors =
    record { order = order; inverse = inverse; factors = factors }

abbrev pub ordered_code : {T : Type 0} → Coded T → Coded (OrderedFactors T)
ordered_code {T} code = code_by (List ℕ × (List ℕ × Factors T))
    (coded× (coded_list coded_ℕ) (coded× (coded_list coded_ℕ) (factors_code code)))
    (λ s. (s.order, (s.inverse, s.factors))) (λ p. ordered_of p.0 p.1.0 p.1.1) (λ _. refl)

-- the permutations are inverse to each other, and as long as L has rows
pub record IsOrdered {T : Type 0} (s : OrderedFactors T) : Type 0 where
  pub order : IsOrder s.order
  pub back : IsOrder s.inverse
  pub inverse : IsInverse s.order s.inverse
  pub count : length s.order ≡ s.factors.l.pattern.minor_dim

-- the entries of L are exactly the fill of P m Pᵀ
abbrev pub StoresFillOfPermuted : (R : CommRing) {T : Type 0} → Plain R → OrderedFactors T → Type 0
StoresFillOfPermuted R m s =
    StoresByColumns (InFill (PlainBase (plain_permuted R s.order m))) s.factors.l.pattern

module _ (R : CommRing) {T : Type 0} (f : T → R.Carrier) where
  -- P A Pᵀ, where A is the symmetric matrix with the entries of a on and above the diagonal
  abbrev pub permuted_symmetric : List ℕ → Compressed T → Plain R
  permuted_symmetric p a = plain_permuted R p (symmetric_of R f a)

  -- P A Pᵀ has no factorisation
  abbrev pub HasNoFactorsInOrder : Compressed T → List ℕ → Type 0
  HasNoFactorsInOrder a p = (l : Plain R) (d : ℕ → R.Carrier)
      → IsFactorisation R f (permuted_symmetric p a) l d → ⊥

module _ (R : CommRing) {T : Type 0} (f : T → R.Carrier) (z : T) where
  -- Pᵀ L D Lᵀ P
  abbrev pub plain_of_ordered : OrderedFactors T → Plain R
  plain_of_ordered s = plain_permuted R s.inverse (plain_of_factors R f z s.factors)

  -- the factors are those of P m Pᵀ
  abbrev pub AreFactorsOfPermuted : Plain R → OrderedFactors T → Type 0
  AreFactorsOfPermuted m s = IsFactorisation R f (plain_permuted R s.order m)
      (plain_of_cols R f s.factors.l) (diagonal R f z s.factors.d)

  -- every factorisation of P m Pᵀ has the values of these factors
  abbrev pub AreOnlyFactorsOfPermuted : Plain R → OrderedFactors T → Type 0
  AreOnlyFactorsOfPermuted m s = (l : Plain R) (d : ℕ → R.Carrier)
      → IsFactorisation R f (plain_permuted R s.order m) l d
      → HasSameValues R (length s.order) (length s.order) l (plain_of_cols R f s.factors.l)
      × ((j : ℕ) → j < length s.order → d j ≡ diagonal R f z s.factors.d j)
