-- If a matrix is zero outside a set that is closed under fill, its factorisation is zero there too,
-- on and below the diagonal.
use Rattle.std.proofs.Common.{◌≡◌, ℕ, zero, suc, ◌<◌, ◌≤◌, ◌⊎◌, inl, inr, Bool, true, false, ap}
use Rattle.std.proofs.Common.{sym, ◌∙◌, refl, arith}
use Rattle.sparse_algebra.proofs.Cases.{true_or_false}
use Rattle.sparse_algebra.specs.Algebra.{CommRing}
use Rattle.sparse_algebra.specs.Sums.{sum_below}
use Rattle.sparse_algebra.proofs.RingLemmas.{zero_add}
use Rattle.sparse_algebra.proofs.SumLemmas.{sum_below-none}
use Rattle.sparse_dense_ops.proofs.RingSteps.{mul_off}
use Rattle.sparse_factor.specs.InnerFactors.{term, ArePartFactors}
use Rattle.sparse_factor.proofs.RingFacts.{mul_off_right, cancel_mul}

-- the set that the test decides is closed under fill
abbrev pub IsClosed : (ℕ → ℕ → Bool) → Type 0
IsClosed set = (i j k : ℕ) → set i k ≡ true → set j k ≡ true → k < j → j ≤ i → set i j ≡ true

-- m is zero on and below the diagonal outside the set
abbrev pub IsZeroOutside : (R : CommRing) → ℕ → (ℕ → ℕ → R.Carrier) → (ℕ → ℕ → Bool) → Type 0
IsZeroOutside R n m set = (i j : ℕ) → j ≤ i → i < n → set i j ≡ false → m i j ≡ R.zero

pub clash : (b : Bool) → b ≡ true → b ≡ false → ⊥
clash true e g = cc
clash false e g = cc

module _ (R : CommRing) {X : Type 0} (f : X → R.Carrier) (n : ℕ) (m : ℕ → ℕ → R.Carrier)
    (set : ℕ → ℕ → Bool) (closed : IsClosed set) (holds : IsZeroOutside R n m set) where
  -- if (i, j) is outside the set, one of (i, k) and (j, k) is outside
  one_outside : (i j k : ℕ) → k < j → j ≤ i → set i j ≡ false
      → (set i k ≡ false) ⊎ (set j k ≡ false)
  one_outside i j k lt le out = elim (true_or_false (set i k)) [
    | inl a ↦ elim (true_or_false (set j k)) [
      | inl b ↦ absurd (clash (set i j) (closed i j k a b lt le) out)
      | inr b ↦ inr b
    ]
    | inr a ↦ inl a
  ]

  module _ (j : ℕ) (l : ℕ → ℕ → R.Carrier) (d : ℕ → R.Carrier)
      (zeros : (i c : ℕ) → c < j → c ≤ i → i < n → set i c ≡ false → l i c ≡ R.zero) where
    -- outside the set the terms of the first j columns are zero
    none_added : (i : ℕ) → j ≤ i → i < n → set i j ≡ false
        → sum_below R j (term R l d i j) ≡ R.zero
    none_added i le within out = sum_below-none R j (term R l d i j) (λ k lt.
        elim (one_outside i j k lt le out) [
          | inl a ↦ mul_off R (R.mul (l i k) (d k)) (l j k)
              (mul_off R (l i k) (d k) (zeros i k lt (omega arith) within a))
          | inr b ↦ mul_off_right R (R.mul (l i k) (d k)) (l j k)
              (zeros j k lt (omega arith) (omega arith) b)
        ])

    -- so m after their updates is zero there too
    pub left-outside : (w : ℕ → R.Carrier) (i : ℕ) → j ≤ i → i < n → set i j ≡ false
        → R.add (sum_below R j (term R l d i j)) (w i) ≡ m i j → w i ≡ R.zero
    left-outside w i le within out h = sym (zero_add R (w i))
        ∙ ap (λ s. R.add s (w i)) (sym (none_added i le within out)) ∙ h
        ∙ holds i j le within out

  outside_before : (j : ℕ) (l : ℕ → ℕ → R.Carrier) (d : ℕ → R.Carrier) → j ≤ n
      → ArePartFactors R f n j m l d → (b i c : ℕ) → c < b → c < j → c ≤ i → i < n
      → set i c ≡ false → l i c ≡ R.zero
  outside_before j l d most p zero i c lt below le within out = absurd (omega arith)
  outside_before j l d most p (suc b) i c lt below le within out =
      let zeros : (i k : ℕ) → k < c → k ≤ i → i < n → set i k ≡ false → l i k ≡ R.zero =
      λ i k less. outside_before j l d most p b i k (omega arith) (omega arith) in
      let gone : R.mul (l i c) (d c) ≡ R.zero =
      left-outside c l d zeros (λ i. R.mul (l i c) (d c)) i le within out
      (p.columns i c below le within) in
      cancel_mul R f (l i c) R.zero (d c) (p.pivots c below)
      (gone ∙ sym (mul_off R R.zero (d c) refl))

  pub part-outside : (j : ℕ) (l : ℕ → ℕ → R.Carrier) (d : ℕ → R.Carrier) → j ≤ n
      → ArePartFactors R f n j m l d → (i c : ℕ) → c < j → c ≤ i → i < n → set i c ≡ false
      → l i c ≡ R.zero
  part-outside j l d most p i c lt le within out =
      outside_before j l d most p (suc c) i c (omega arith) lt le within out
