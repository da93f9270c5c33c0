-- Products with the solution of a symmetric system.
use Rattle.std.proofs.Common.{◌≡◌, ℕ, inl, inr, length, max, ap, sym}
use Rattle.std.proofs.Common.{subst, ◌∙◌, arith}
use Rattle.std.proofs.lemmas.Bool.{cases_lt}
use Rattle.std.proofs.Math.Nat.{min-eq_left, min-eq_right, max-eq_left, max-eq_right}
use Rattle.nalgebra_sparse.specs.Algebra.{CommRing}
use Rattle.nalgebra_sparse.specs.DensePlain.{plain_full}
use Rattle.nalgebra_sparse.specs.Compressed.{Compressed}
use Rattle.nalgebra_sparse.specs.Factorisations.{IsFactorisation, IsUnitLower, plain_symmetric}
use Rattle.nalgebra_sparse.specs.Factors.{Factors, HavePivots, diagonal, plain_of_factors}
use Rattle.nalgebra_sparse.specs.Factors.{symmetric_of}
use Rattle.nalgebra_sparse.specs.Plain.{Plain, plain_product, plain_transpose}
use Rattle.nalgebra_sparse.specs.PlainOfLanes.{plain_of_cols}
use Rattle.nalgebra_sparse.specs.Solutions.{HasSameValues}
use Rattle.nalgebra_sparse.specs.SumLemmas.{sum_below-same}
use Rattle.nalgebra_sparse.specs.Sums.{sum_below}

module _ (R : CommRing) where
  -- a matrix that is its own transpose is its symmetric matrix
  symmetric_is : (a : Plain R) → plain_transpose R a ≡ a → (i j : ℕ)
      → (plain_symmetric R a).value i j ≡ a.value i j
  symmetric_is a h i j = elim (cases_lt i j) [
    | inl lt ↦ ap (λ k. a.value k (max i j)) (min-eq_left (omega (arith, lt)))
        ∙ ap (a.value i) (max-eq_right (omega (arith, lt)))
    | inr le ↦ ap (λ k. a.value k (max i j)) (min-eq_right le)
        ∙ ap (a.value j) (max-eq_left le) ∙ ap (λ (b : Plain R). b.value i j) h
  ]

  -- the product of the matrix and a solution for its factors is the right side
  pub product_is : (a f x b c : Plain R) (n m : ℕ) → a.cols ≡ n → f.cols ≡ n
      → plain_transpose R a ≡ a → HasSameValues R n n f (plain_symmetric R a)
      → plain_full R (plain_product R f x) ≡ b → c ≡ plain_full R (plain_product R a x)
      → HasSameValues R n m c b
  product_is a f x b c n m cols same h equation solved times i j row _ =
      ap (λ (p : Plain R). p.value i j) times
      ∙ ap (λ s. sum_below R s (λ k. R.mul (a.value i k) (x.value k j))) cols
      ∙ sum_below-same R n (λ k. R.mul (a.value i k) (x.value k j))
      (λ k. R.mul (f.value i k) (x.value k j))
      (λ k lt. ap (λ v. R.mul v (x.value k j))
      (sym (equation i k row lt ∙ symmetric_is a h i k)))
      ∙ ap (λ s. sum_below R s (λ k. R.mul (f.value i k) (x.value k j))) (sym same)
      ∙ ap (λ (p : Plain R). p.value i j) solved

-- the factors that a factorisation stores are factors of the symmetric matrix
pub factors_exist : (R : CommRing) {T : Type 0} (f : T → R.Carrier) (z : T) (a : Compressed T)
    (s : Factors T) → s.l.pattern.minor_dim ≡ a.pattern.minor_dim
    → length s.d ≡ a.pattern.minor_dim → IsUnitLower R (plain_of_cols R f s.l)
    → HavePivots R f z s.d → HasSameValues R (length s.d) (length s.d)
    (plain_of_factors R f z s) (symmetric_of R f a)
    → (l : Plain R) × ((d : ℕ → R.Carrier) × IsFactorisation R f (symmetric_of R f a) l d)
factors_exist R f z a s rows count lower pivots equation = (
  plain_of_cols R f s.l,
  (
    diagonal R f z s.d,
    record {
      rows = rows;
      lower = lower;
      pivots = λ j lt. pivots j (omega (arith, lt, count));
      equation = subst (λ n. HasSameValues R n n (plain_of_factors R f z s) (symmetric_of R f a))
          count equation;
    },
  ),
)
