-- A triangular system whose right side is zero has only the solution zero.
use Rattle.std.proofs.Common.{◌≡◌, ◌≢◌, ℕ, zero, suc, ◌<◌, ◌⊎◌, inl, inr, ap, sym, ◌∙◌, arith}
use Rattle.sparse_algebra.specs.Algebra.{CommRing}
use Rattle.sparse_algebra.specs.Sums.{sum_below}
use Rattle.sparse_algebra.proofs.Products.{unit_cancels}
use Rattle.sparse_algebra.proofs.RingLemmas.{mul_zero}
use Rattle.sparse_dense_ops.proofs.RingSteps.{mul_off}
use Rattle.sparse_lu_laws.proofs.Sums.{sum_below-single}

-- the diagonal has inverses; in row i, the coefficient of an index k other than i is zero unless the
-- rank of k is less than that of i
module _ (R : CommRing) (n : ℕ) (t : ℕ → ℕ → R.Carrier) (rank : ℕ → ℕ)
    (order : (i k : ℕ) → i < n → k < n → k ≢ i → (rank k < rank i) ⊎ (t i k ≡ R.zero))
    (unit : (k : ℕ) → k < n → (e : R.Carrier) × (R.mul (t k k) e ≡ R.one))
    (d : ℕ → R.Carrier)
    (null : (i : ℕ) → i < n → sum_below R n (λ k. R.mul (t i k) (d k)) ≡ R.zero) where
  zero_below : (m i : ℕ) → rank i < m → i < n → d i ≡ R.zero
  zero_below zero i under less = absurd (omega arith)
  zero_below (suc m) i under less =
      let inverse = unit i less in
      unit_cancels R (t i i) inverse.0 (d i) R.zero inverse.1
      (sym (sum_below-single R n i (λ k. R.mul (t i k) (d k)) less
      (λ k lt other. elim (order i k less lt other) [
        | inl before ↦ ap (R.mul (t i k)) (zero_below m k (omega arith) lt) ∙ mul_zero R (t i k)
        | inr off ↦ mul_off R (t i k) (d k) off
      ])) ∙ null i less ∙ sym (mul_zero R (t i i)))

  pub triangle_null : (i : ℕ) → i < n → d i ≡ R.zero
  triangle_null i less = zero_below (suc (rank i)) i (omega arith) less
