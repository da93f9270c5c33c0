-- Products of pivots, and the factors that a factorisation stores.
use Rattle.std.proofs.Common.{◌≡◌, ℕ, zero, suc, ◌<◌, length, ap, ◌∙◌, sym, subst, refl, arith}
use Rattle.nalgebra_sparse.specs.Algebra.{CommRing}
use Rattle.nalgebra_sparse.specs.Compressed.{Compressed}
use Rattle.nalgebra_sparse.specs.PlainOfLanes.{plain_of_cols}
use Rattle.nalgebra_sparse.specs.Plain.{Plain}
use Rattle.nalgebra_sparse.specs.Factorisations.{IsFactorisation, IsUnitLower}
use Rattle.nalgebra_sparse.specs.Factors.{Factors, AreOnlyFactorsOf, HavePivots, diagonal}
use Rattle.nalgebra_sparse.specs.Factors.{plain_of_factors, symmetric_of}
use Rattle.nalgebra_sparse.specs.Solutions.{HasSameValues}
use Rattle.examples_theorems.specs.Pivots.{product_below, HasFactors}

module _ (R : CommRing) where
  product_below-same : (n : ℕ) (f g : ℕ → R.Carrier) → ((k : ℕ) → k < n → f k ≡ g k)
      → product_below R n f ≡ product_below R n g
  product_below-same zero f g same = refl
  product_below-same (suc n) f g same =
      ap (λ c. R.mul c (f n)) (product_below-same n f g (λ k lt. same k (omega arith)))
      ∙ ap (R.mul (product_below R n g)) (same n (omega arith))

  module _ {T : Type 0} (f : T → R.Carrier) (z : T) (a : Compressed T) (s : Factors T)
      (count : length s.d ≡ a.pattern.minor_dim) where
    pub one_product : AreOnlyFactorsOf R f z a s → (l : Plain R) (d : ℕ → R.Carrier)
        → IsFactorisation R f (symmetric_of R f a) l d
        → product_below R (length s.d) (diagonal R f z s.d)
        ≡ product_below R a.pattern.minor_dim d
    one_product only l d is =
        product_below-same (length s.d) (diagonal R f z s.d) d
        (λ j lt. sym ((only l d is).1 j lt))
        ∙ ap (λ n. product_below R n d) count

    pub factors_exist : s.l.pattern.minor_dim ≡ a.pattern.minor_dim
        → IsUnitLower R (plain_of_cols R f s.l)
        → HavePivots R f z s.d
        → HasSameValues R (length s.d) (length s.d) (plain_of_factors R f z s) (symmetric_of R f a)
        → HasFactors R f a
    factors_exist rows lower pivots equation = (
      plain_of_cols R f s.l,
      (
        diagonal R f z s.d,
        record {
          rows = rows;
          lower = lower;
          pivots = λ j lt. pivots j (omega (arith, lt, count));
          equation = subst
              (λ n. HasSameValues R n n (plain_of_factors R f z s) (symmetric_of R f a))
              count equation;
        },
      ),
    )
