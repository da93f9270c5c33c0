-- The factors of P A Pᵀ, where A is symmetric, are those of the upper triangle of P A Pᵀ.
use Rattle.std.proofs.Common.{◌≡◌, ℕ, List, length, ap, sym, ◌∙◌, arith, subst}
use Rattle.sparse_algebra.specs.Algebra.{CommRing}
use Rattle.sparse_algebra.specs.Plain.{Plain}
use Rattle.sparse_compressed.specs.Compressed.{Compressed}
use Rattle.sparse_compressed.specs.PlainOfLanes.{plain_of_cols}
use Rattle.sparse_dense_ops.specs.Solutions.{HasSameValues}
use Rattle.sparse_permutation.specs.Permutations.{IsOrder, IsInverse}
use Rattle.sparse_permutation.specs.PermutedPlain.{plain_permuted, IsSymmetric}
use Rattle.sparse_factor.specs.Factorisations.{IsFactorisation, IsUnitLower}
use Rattle.sparse_factor.specs.Factors.{AreOnlyFactorsOf, Factors, HasNoFactors, HavePivots}
use Rattle.sparse_factor.specs.Factors.{diagonal, plain_of_factors, symmetric_of}
use Rattle.sparse_factor.specs.OrderedFactors.{AreFactorsOfPermuted, AreOnlyFactorsOfPermuted}
use Rattle.sparse_factor.specs.OrderedFactors.{ordered_of, plain_of_ordered}
use Rattle.sparse_factor.proofs.OrderedSystems.{permuted_back}
use Rattle.sparse_factor.proofs.SymmetricMatrices.{permuted_itself}

-- m has P A Pᵀ as its plain matrix
module _ (R : CommRing) {T : Type 0} (f : T → R.Carrier) (z : T) (p q : List ℕ) (a m : Compressed T)
    (symmetric : IsSymmetric R (plain_of_cols R f a))
    (is : plain_of_cols R f m ≡ plain_permuted R p (plain_of_cols R f a)) where
  same : symmetric_of R f m ≡ plain_permuted R p (plain_of_cols R f a)
  same = permuted_itself R p (plain_of_cols R f a) (plain_of_cols R f m) symmetric is

  pub no_permuted_factors : HasNoFactors R f m → (l : Plain R) (d : ℕ → R.Carrier)
      → IsFactorisation R f (plain_permuted R p (plain_of_cols R f a)) l d → ⊥
  no_permuted_factors none l d h =
      none l d (subst (λ (v : Plain R). IsFactorisation R f v l d) (sym same) h)

  module _ (s : Factors T) (size : length p ≡ m.pattern.minor_dim)
      (count : length s.d ≡ m.pattern.minor_dim) where
    pub permuted_factors : s.l.pattern.minor_dim ≡ m.pattern.minor_dim
        → IsUnitLower R (plain_of_cols R f s.l) → HavePivots R f z s.d
        → HasSameValues R (length s.d) (length s.d) (plain_of_factors R f z s) (symmetric_of R f m)
        → AreFactorsOfPermuted R f z (plain_of_cols R f a) (ordered_of p q s)
    permuted_factors rows lower pivots equation =
        let factors : IsFactorisation R f (symmetric_of R f m) (plain_of_cols R f s.l)
        (diagonal R f z s.d) = record {
          rows = rows;
          lower = lower;
          pivots = λ j lt. pivots j (omega (arith, lt, count));
          equation = λ i j row col.
              equation i j (omega (arith, row, count)) (omega (arith, col, count));
        } in
        subst (λ (v : Plain R). IsFactorisation R f v (plain_of_cols R f s.l) (diagonal R f z s.d)) same
        factors

    pub only_permuted_factors : AreOnlyFactorsOf R f z m s
        → AreOnlyFactorsOfPermuted R f z (plain_of_cols R f a) (ordered_of p q s)
    only_permuted_factors only l d h =
        let agree = only l d (subst (λ (v : Plain R). IsFactorisation R f v l d) (sym same) h) in (
          λ i j row col.
              agree.0 i j (omega (arith, row, count, size)) (omega (arith, col, count, size)),
          λ j lt. agree.1 j (omega (arith, lt, count, size)),
        )

    -- Pᵀ L D Lᵀ P is A
    pub ordered_equation : IsInverse p q → IsOrder q → s.l.pattern.minor_dim ≡ m.pattern.minor_dim
        → a.pattern.minor_dim ≡ m.pattern.minor_dim → a.pattern.major_dim ≡ m.pattern.minor_dim
        → HasSameValues R (length s.d) (length s.d) (plain_of_factors R f z s) (symmetric_of R f m)
        → HasSameValues R (length p) (length p) (plain_of_ordered R f z (ordered_of p q s))
        (plain_of_cols R f a)
    ordered_equation inverse order rows a_rows a_cols equation =
        permuted_back R inverse order (plain_of_factors R f z s) (plain_of_cols R f a) (length p)
        (omega arith) (omega (arith, rows, size)) (omega (arith, rows, size))
        (omega (arith, a_rows, size)) (omega (arith, a_cols, size))
        (λ i j row col. equation i j (omega (arith, row, size, count)) (omega (arith, col, size, count))
        ∙ ap (λ (v : Plain R). v.value i j) same)
