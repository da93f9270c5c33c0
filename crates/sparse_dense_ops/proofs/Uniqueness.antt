-- A triangular system has at most one solution: each equation determines an entry from those before
-- it.
use Rattle.std.proofs.Common.{◌≡◌, ◌≢◌, ℕ, zero, suc, ◌<◌, ◌⊎◌, inl, inr, ap, sym, ◌∙◌}
use Rattle.std.proofs.Common.{arith}
use Rattle.std.specs.Prelude.{nat_eq, not}
use Rattle.sparse_algebra.proofs.Cases.{nat_eq_no}
use Rattle.sparse_algebra.specs.Algebra.{CommRing}
use Rattle.sparse_algebra.specs.Sums.{sum_below, where_true}
use Rattle.sparse_algebra.proofs.Products.{unit_cancels}
use Rattle.sparse_algebra.proofs.RingLemmas.{cancel}
use Rattle.sparse_compressed.proofs.AddedLanes.{eq_refl}
use Rattle.sparse_dense_ops.specs.InnerColumns.{SolvesColumn}
use Rattle.sparse_dense_ops.proofs.RingSteps.{mul_off, sum_below-split}

module _ (R : CommRing) where
  -- if two sums are equal and all their other terms are, the entries of term i are equal where its
  -- coefficient has an inverse
  one_entry : (n i : ℕ) (t x y : ℕ → R.Carrier) (e : R.Carrier) → i < n → R.mul (t i) e ≡ R.one
      → ((k : ℕ) → k < n → k ≢ i → R.mul (t k) (x k) ≡ R.mul (t k) (y k))
      → sum_below R n (λ k. R.mul (t k) (x k)) ≡ sum_below R n (λ k. R.mul (t k) (y k))
      → x i ≡ y i
  one_entry n i t x y e lt inv same sums =
      let rest : ℕ → R.Carrier = λ k. where_true R (not (nat_eq k i)) (R.mul (t k) (x k)) in
      let none : rest i ≡ R.zero = rw (eq_refl i) in
      let other : (k : ℕ) → k ≢ i → R.mul (t k) (x k) ≡ rest k = λ k ne. rw (nat_eq_no k i ne) in
      unit_cancels R (t i) e (x i) (y i) inv
      (cancel R (R.mul (t i) (x i)) (R.mul (t i) (y i)) (sum_below R n rest)
      (sym (sum_below-split R n i _ rest lt none (λ k _ ne. other k ne)) ∙ sums
      ∙ sum_below-split R n i _ rest lt none (λ k l ne. sym (same k l ne) ∙ other k ne)))

  -- in each row i, the coefficient of an index k other than i is zero unless the rank of k is less
  -- than that of i
  module _ (n : ℕ) (t : ℕ → ℕ → R.Carrier) (rank : ℕ → ℕ)
      (order : (i k : ℕ) → i < n → k ≢ i → (rank k < rank i) ⊎ (t i k ≡ R.zero))
      (inverse : (k : ℕ) → k < n → (e : R.Carrier) × (R.mul (t k k) e ≡ R.one))
      (x y b : ℕ → R.Carrier) (hx : SolvesColumn R n t x b) (hy : SolvesColumn R n t y b) where
    one_below : (m i : ℕ) → rank i < m → i < n → x i ≡ y i
    one_below zero i under lt = absurd (omega arith)
    one_below (suc m) i under lt =
        let e = inverse i lt in
        one_entry n i (t i) x y e.0 lt e.1 (λ k l ne. elim (order i k lt ne) [
          | inl before ↦ ap (R.mul (t i k)) (one_below m k (omega arith) l)
          | inr off ↦ mul_off R (t i k) (x k) off ∙ sym (mul_off R (t i k) (y k) off)
        ]) (hx i lt ∙ sym (hy i lt))

    pub one_column_solution : (i : ℕ) → i < n → x i ≡ y i
    one_column_solution i lt = one_below (suc (rank i)) i (omega arith) lt
