-- The next column of a factorisation: column j after the updates, times the inverse of its pivot.
use Rattle.std.proofs.Common.{◌≡◌, ◌≢◌, ℕ, suc, ◌<◌, ◌≤◌, inl, inr, ap, sym}
use Rattle.std.proofs.Common.{subst, ◌∙◌, arith}
use Rattle.sparse_algebra.proofs.Cases.{le_cases, lt_suc_cases}
use Rattle.sparse_algebra.specs.Algebra.{CommRing}
use Rattle.sparse_algebra.specs.Sums.{sum_below}
use Rattle.sparse_algebra.proofs.SumLemmas.{sum_below-same}
use Rattle.sparse_algebra.specs.Inverses.{HasInverse}
use Rattle.sparse_dense_ops.proofs.RingSteps.{divided}
use Rattle.sparse_factor.specs.InnerFactors.{term, ArePartFactors, IsUpdated}
use Rattle.sparse_factor.proofs.RingFacts.{one_mul}

module _ (R : CommRing) {X : Type 0} (f : X → R.Carrier) (n j : ℕ) (m l l' : ℕ → ℕ → R.Carrier)
    (d d' w : ℕ → R.Carrier) (e : X) (lt : j < n) (p : ArePartFactors R f n j m l d)
    (left : IsUpdated R n j l d j w (λ i. m i j)) (inv : R.mul (w j) (f e) ≡ R.one)
    (kept : (i c : ℕ) → c ≢ j → l' i c ≡ l i c) (kept_d : (c : ℕ) → c ≢ j → d' c ≡ d c)
    (pivot : d' j ≡ w j) where
  other : {c : ℕ} → c < j → c ≢ j
  other less same = absurd (omega (arith, same, less))

  old_terms : (i c : ℕ) → c ≤ j
      → sum_below R c (term R l' d' i c) ≡ sum_below R c (term R l d i c)
  old_terms i c le = sum_below-same R c (term R l' d' i c) (term R l d i c) (λ k less.
      let ne : k ≢ j = other (omega arith) in
      ap (λ x. R.mul (R.mul x (d' k)) (l' c k)) (kept i k ne)
      ∙ ap (λ x. R.mul (R.mul (l i k) x) (l' c k)) (kept_d k ne)
      ∙ ap (R.mul (R.mul (l i k) (d k))) (kept c k ne))

  module _ (unit : l' j j ≡ R.one) (upper : (i : ℕ) → i < j → l' i j ≡ R.zero)
      (below : (i : ℕ) → j < i → i < n → l' i j ≡ R.mul (w i) (f e)) where
    last : (i : ℕ) → j ≤ i → i < n → R.mul (l' i j) (d' j) ≡ w i
    last i le within = elim (le_cases j i le) [
      | inl more ↦ ap (R.mul (l' i j)) pivot ∙ R.laws.mul_comm (l' i j) (w j)
          ∙ ap (R.mul (w j)) (below i more within) ∙ divided R (w j) (f e) (w i) inv
      | inr is ↦ one_mul R (l' i j) (d' j) (ap (λ i. l' i j) (sym is) ∙ unit) ∙ pivot ∙ ap w is
    ]

    last_column : (i c : ℕ) → c ≡ j → c ≤ i → i < n
        → R.add (sum_below R c (term R l' d' i c)) (R.mul (l' i c) (d' c)) ≡ m i c
    last_column i c is le within =
        ap (λ c. R.add (sum_below R c (term R l' d' i c)) (R.mul (l' i c) (d' c))) is
        ∙ ap (λ s. R.add s (R.mul (l' i j) (d' j))) (old_terms i j (omega arith))
        ∙ ap (R.add (sum_below R j (term R l d i j))) (last i (omega (arith, is, le)) within)
        ∙ left i (omega (arith, is, le)) within ∙ ap (m i) (sym is)

    old_column : (i c : ℕ) → c < j → c ≤ i → i < n
        → R.add (sum_below R c (term R l' d' i c)) (R.mul (l' i c) (d' c)) ≡ m i c
    old_column i c before le within =
        ap (λ s. R.add s (R.mul (l' i c) (d' c))) (old_terms i c (omega arith))
        ∙ ap (λ x. R.add (sum_below R c (term R l d i c)) (R.mul x (d' c)))
        (kept i c (other before))
        ∙ ap (λ x. R.add (sum_below R c (term R l d i c)) (R.mul (l i c) x))
        (kept_d c (other before))
        ∙ p.columns i c before le within

    pub part_step : ArePartFactors R f n (suc j) m l' d'
    part_step = record {
      unit = λ c less. elim (lt_suc_cases c j less) [
        | inl before ↦ kept c c (other before) ∙ p.unit c before
        | inr is ↦ ap (λ c. l' c c) is ∙ unit
      ];
      upper = λ i c less under. elim (lt_suc_cases c j less) [
        | inl before ↦ kept i c (other before) ∙ p.upper i c before under
        | inr is ↦ ap (l' i) is ∙ upper i (omega (arith, is, under))
      ];
      pivots = λ c less. elim (lt_suc_cases c j less) [
        | inl before ↦ subst (HasInverse R f) (sym (kept_d c (other before))) (p.pivots c before)
        | inr is ↦ (e, ap (λ x. R.mul x (f e)) (ap d' is ∙ pivot) ∙ inv)
      ];
      columns = λ i c less le within. elim (lt_suc_cases c j less) [
        | inl before ↦ old_column i c before le within
        | inr is ↦ last_column i c is le within
      ];
    }
