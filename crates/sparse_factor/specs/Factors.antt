-- The factors L and D, as an `Ldl` stores them.
use Rattle.std.specs.Prelude.{◌≡◌, ℕ, ◌<◌, List, Bool, length, slice_index_or, refl}
use Rattle.std.specs.Coded.{Coded, code_by, coded×, coded_list}
use Rattle.std.specs.Cmp.{IsPartialEquivalence, IsEquivalence, and_per, on_per, and_equiv, on_equiv}
use Rattle.std.specs.Cmp.Lexicographic.{pointwise, lists_per, lists_equiv}
use Rattle.std.specs.Ordering.{on, eq_of_both}
use Rattle.sparse_algebra.specs.Algebra.{CommRing}
use Rattle.sparse_algebra.specs.Plain.{Plain}
use Rattle.sparse_compressed.specs.Compressed.{Compressed, compressed_code, compressed_eq}
use Rattle.sparse_compressed.specs.Laws.{compressed_eq-laws, compressed_eq-equiv}
use Rattle.sparse_compressed.specs.PlainOfLanes.{plain_of_cols}
use Rattle.sparse_factor.specs.Fill.{InFill, UpperBase, StoresByColumns}
use Rattle.sparse_algebra.specs.Inverses.{HasInverse}
use Rattle.sparse_dense_ops.specs.Solutions.{HasSameValues}
use Rattle.sparse_factor.specs.Factorisations.{IsFactorisation, IsUnitLower, plain_ldl}
use Rattle.sparse_factor.specs.Factorisations.{plain_symmetric}

-- the columns of L, and the diagonal of D
pub record Factors (T : Type 0) : Type 0 where
  pub l : Compressed T
  pub d : List T

abbrev pub factors_of : {T : Type 0} → Compressed T → List T → Factors T
factors_of l d = record { l = l; d = d }

abbrev pub factors_code : {T : Type 0} → Coded T → Coded (Factors T)
factors_code {T} code = code_by (Compressed T × List T)
    (coded× (compressed_code code) (coded_list code))
    (λ s. (s.l, s.d)) (λ p. factors_of p.0 p.1) (λ _. refl)

module _ (R : CommRing) {T : Type 0} (f : T → R.Carrier) where
  -- the symmetric matrix with the entries of a on and above the diagonal
  abbrev pub symmetric_of : Compressed T → Plain R
  symmetric_of a = plain_symmetric R (plain_of_cols R f a)

  abbrev pub HasNoFactors : Compressed T → Type 0
  HasNoFactors a = (l : Plain R) (d : ℕ → R.Carrier)
      → IsFactorisation R f (symmetric_of a) l d → ⊥

module _ (R : CommRing) {T : Type 0} (f : T → R.Carrier) (z : T) where
  -- the entries of d, as ring elements
  abbrev pub diagonal : List T → ℕ → R.Carrier
  diagonal d j = f (slice_index_or d j z)

  -- each entry of d has an inverse
  abbrev pub HavePivots : List T → Type 0
  HavePivots d = (j : ℕ) → j < length d → HasInverse R f (diagonal d j)

  -- L is unit lower triangular, and d has one entry for each row of L, which has an inverse
  pub record AreFactors (s : Factors T) : Type 0 where
    pub lower : IsUnitLower R (plain_of_cols R f s.l)
    pub count : length s.d ≡ s.l.pattern.minor_dim
    pub pivots : HavePivots s.d

  -- L D Lᵀ
  abbrev pub plain_of_factors : Factors T → Plain R
  plain_of_factors s = plain_ldl R (plain_of_cols R f s.l) (diagonal s.d)

  -- the factors of the symmetric matrix of a, where the pattern of L is exactly the fill
  pub record AreFactorsOf (a : Compressed T) (s : Factors T) : Type 0 where
    pub entries : StoresByColumns (InFill (UpperBase a.pattern)) s.l.pattern
    pub factors : IsFactorisation R f (symmetric_of R f a) (plain_of_cols R f s.l) (diagonal s.d)

  -- every factorisation has the values of these factors
  abbrev pub AreOnlyFactorsOf : Compressed T → Factors T → Type 0
  AreOnlyFactorsOf a s = (l : Plain R) (d : ℕ → R.Carrier)
      → IsFactorisation R f (symmetric_of R f a) l d
      → HasSameValues R (length s.d) (length s.d) l (plain_of_cols R f s.l)
      × ((j : ℕ) → j < length s.d → d j ≡ diagonal s.d j)

module _ {T : Type 0} where
  -- the result of `==`
  abbrev pub factors_eq : (T → T → Bool) → Factors T → Factors T → Bool
  factors_eq E = eq_of_both (on (λ s. s.l) (compressed_eq E)) (on (λ s. s.d) (pointwise E))

  pub factors_eq-laws : {E : T → T → Bool} → IsPartialEquivalence E
      → IsPartialEquivalence (factors_eq E)
  factors_eq-laws laws = and_per (on_per (λ s. s.l) (compressed_eq-laws laws))
      (on_per (λ s. s.d) (lists_per laws))

  pub factors_eq-equiv : {E : T → T → Bool} → IsEquivalence E → IsEquivalence (factors_eq E)
  factors_eq-equiv laws = and_equiv (on_equiv (λ s. s.l) (compressed_eq-equiv laws))
      (on_equiv (λ s. s.d) (lists_equiv laws))
