-- A solution of the system with the factors is one of the system with the matrix.
use Rattle.std.proofs.Common.{◌≡◌, ℕ, ◌<◌, inl, inr, max, ap, sym}
use Rattle.std.proofs.Common.{◌∙◌, arith}
use Rattle.std.proofs.lemmas.Bool.{cases_lt}
use Rattle.std.proofs.Math.Nat.{min-eq_left, min-eq_right, max-eq_left, max-eq_right}
use Rattle.sparse_algebra.specs.Algebra.{CommRing}
use Rattle.sparse_algebra.specs.Plain.{Plain, plain_product}
use Rattle.sparse_algebra.specs.Sums.{sum_below}
use Rattle.sparse_algebra.proofs.SumLemmas.{sum_below-same}
use Rattle.sparse_coo_dense.specs.DensePlain.{plain_full}
use Rattle.sparse_factor.specs.Factorisations.{plain_symmetric}
use Rattle.sparse_dense_ops.specs.Solutions.{HasSameValues}

module _ (R : CommRing) where
  -- a.value i j and a.value j i agree for i, j < n
  abbrev pub IsSymmetricBelow : ℕ → Plain R → Type 0
  IsSymmetricBelow n a = (i j : ℕ) → i < n → j < n → a.value i j ≡ a.value j i

  pub symmetric_is : (n : ℕ) (a : Plain R) → IsSymmetricBelow n a → (i j : ℕ) → i < n → j < n
      → (plain_symmetric R a).value i j ≡ a.value i j
  symmetric_is n a h i j row col = elim (cases_lt i j) [
    | inl lt ↦ ap (λ k. a.value k (max i j)) (min-eq_left (omega (arith, lt)))
        ∙ ap (a.value i) (max-eq_right (omega (arith, lt)))
    | inr le ↦ ap (λ k. a.value k (max i j)) (min-eq_right le)
        ∙ ap (a.value j) (max-eq_left le) ∙ h j i col row
  ]

  pub solved_is : (a f x b : Plain R) (n m : ℕ) → a.cols ≡ n → f.cols ≡ n → IsSymmetricBelow n a
      → HasSameValues R n n f (plain_symmetric R a)
      → plain_full R (plain_product R f x) ≡ plain_full R b
      → HasSameValues R n m (plain_product R a x) b
  solved_is a f x b n m cols same h equation solved i j row _ =
      ap (λ s. sum_below R s (λ k. R.mul (a.value i k) (x.value k j))) cols
      ∙ sum_below-same R n (λ k. R.mul (a.value i k) (x.value k j))
      (λ k. R.mul (f.value i k) (x.value k j))
      (λ k lt. ap (λ v. R.mul v (x.value k j))
      (sym (equation i k row lt ∙ symmetric_is n a h i k row lt)))
      ∙ ap (λ s. sum_below R s (λ k. R.mul (f.value i k) (x.value k j))) (sym same)
      ∙ ap (λ (p : Plain R). p.value i j) solved

  -- a product depends only on the values of its right operand
  pub solution_same : (a x y b : Plain R) (n m : ℕ) → ((i j : ℕ) → y.value i j ≡ x.value i j)
      → HasSameValues R n m (plain_product R a x) b → HasSameValues R n m (plain_product R a y) b
  solution_same a x y b n m same solved i j row col =
      sum_below-same R a.cols (λ k. R.mul (a.value i k) (y.value k j))
      (λ k. R.mul (a.value i k) (x.value k j)) (λ k lt. ap (R.mul (a.value i k)) (same k j))
      ∙ solved i j row col
