-- A factorisation is unique, column by column: the equation at (j, j) determines pivot j, and those
-- below it determine column j, since the pivot has an inverse. No other cancellation is needed.
use Rattle.std.proofs.Common.{◌≡◌, ℕ, zero, suc, ◌<◌, ◌≤◌, inl, inr, ap, sym, subst, ◌∙◌, arith}
use Rattle.sparse_algebra.proofs.Cases.{lt_or_ge, three}
use Rattle.sparse_algebra.specs.Algebra.{CommRing}
use Rattle.sparse_algebra.specs.Sums.{sum_below}
use Rattle.sparse_algebra.proofs.SumLemmas.{sum_below-same}
use Rattle.sparse_algebra.specs.Inverses.{HasInverse}
use Rattle.sparse_factor.specs.InnerFactors.{term, ArePartFactors}
use Rattle.sparse_factor.proofs.RingFacts.{mul_off_right, one_mul, cancel_mul, cancel_left}
use Rattle.sparse_factor.proofs.RingFacts.{sum_below-past}

module _ (R : CommRing) {X : Type 0} (f : X → R.Carrier) where
  -- the product at (i, c) is the sum of the terms of the columns before c, and that of column c
  pub whole : (n i c : ℕ) (l : ℕ → ℕ → R.Carrier) (d : ℕ → R.Carrier) → c < n → l c c ≡ R.one
      → ((k : ℕ) → c < k → k < n → l c k ≡ R.zero)
      → sum_below R n (term R l d i c)
      ≡ R.add (sum_below R c (term R l d i c)) (R.mul (l i c) (d c))
  whole n i c l d lt unit upper =
      sum_below-past R n (suc c) (term R l d i c) lt
      (λ k a b. mul_off_right R (R.mul (l i k) (d k)) (l c k) (upper k a b))
      ∙ ap (R.add (sum_below R c (term R l d i c)))
      (ap (R.mul (R.mul (l i c) (d c))) unit ∙ R.laws.mul_one _)

  -- the equations of the columns give all equations of a symmetric matrix
  pub equations_of_part : (n : ℕ) (m l : ℕ → ℕ → R.Carrier) (d : ℕ → R.Carrier)
      → ((i j : ℕ) → m i j ≡ m j i) → ArePartFactors R f n n m l d
      → (i j : ℕ) → i < n → j < n → sum_below R n (term R l d i j) ≡ m i j
  equations_of_part n m l d symmetric h i j a b = elim (three i j) [
    | inl less ↦ sum_below-same R n (term R l d i j) (term R l d j i)
        (λ k _. transposed (l i k) (d k) (l j k)) ∙ low j i b a (omega arith) ∙ symmetric j i
    | inr (inl more) ↦ low i j a b (omega arith)
    | inr (inr is) ↦ low i j a b (omega (arith, is))
  ]
    where
      transposed : (x y z : R.Carrier) → R.mul (R.mul x y) z ≡ R.mul (R.mul z y) x
      transposed x y z = R.laws.mul_comm (R.mul x y) z ∙ ap (R.mul z) (R.laws.mul_comm x y)
          ∙ sym (R.laws.mul_assoc z y x)

      low : (i j : ℕ) → i < n → j < n → j ≤ i → sum_below R n (term R l d i j) ≡ m i j
      low i j a b le = whole n i j l d b (h.unit j b) (λ k over within. h.upper j k within over)
          ∙ h.columns i j b le a

  -- the equation at (c, c)
  at_pivot : {s lcc dc m : R.Carrier} → lcc ≡ R.one → R.add s (R.mul lcc dc) ≡ m → R.add s dc ≡ m
  at_pivot {s} {lcc} {dc} unit h = sym (ap (R.add s) (one_mul R lcc dc unit)) ∙ h

  -- the same pivot and the same column c
  abbrev pub Agree : (n c : ℕ) (l l' : ℕ → ℕ → R.Carrier) (d d' : ℕ → R.Carrier) → Type 0
  Agree n c l l' d d' = (d c ≡ d' c) × ((i : ℕ) → i < n → l i c ≡ l' i c)

  module _ (n : ℕ) (l l' : ℕ → ℕ → R.Carrier) (d d' : ℕ → R.Carrier) where
    same_terms : (c i : ℕ) → c < n → i < n → ((k : ℕ) → k < c → Agree n k l l' d d')
        → sum_below R c (term R l d i c) ≡ sum_below R c (term R l' d' i c)
    same_terms c i lt within agree =
        sum_below-same R c (term R l d i c) (term R l' d' i c) (λ k le.
        let a = agree k le in
        ap (λ x. R.mul (R.mul x (d k)) (l c k)) (a.1 i within)
        ∙ ap (λ x. R.mul (R.mul (l' i k) x) (l c k)) a.0
        ∙ ap (R.mul (R.mul (l' i k) (d' k))) (a.1 c lt))

    module _ {j : ℕ} {m : ℕ → ℕ → R.Carrier} (within : j ≤ n) (p : ArePartFactors R f n j m l d)
        (q : ArePartFactors R f n j m l' d') where
      -- columns that agree before c agree at c
      agree_next : (c : ℕ) → c < j → ((k : ℕ) → k < c → Agree n k l l' d d')
          → Agree n c l l' d d'
      agree_next c below ih =
          let inside : c < n = omega arith in
          let old : ℕ → R.Carrier = λ i. sum_below R c (term R l d i c) in
          let sums : (i : ℕ) → i < n → old i ≡ sum_below R c (term R l' d' i c) =
          λ i w. same_terms c i inside w ih in
          let first = at_pivot (p.unit c below) (p.columns c c below (omega arith) inside) in
          let second = at_pivot (q.unit c below) (q.columns c c below (omega arith) inside) in
          let pivot : d c ≡ d' c = cancel_left R (d c) (d' c) (old c)
          (first ∙ sym (ap (λ s. R.add s (d' c)) (sums c inside) ∙ second)) in (
            pivot,
            λ i w. elim (lt_or_ge i c) [
              | inl less ↦ p.upper i c below less ∙ sym (q.upper i c below less)
              | inr le ↦
                  let same : R.add (old i) (R.mul (l' i c) (d c)) ≡ m i c =
                  ap (λ x. R.add (old i) (R.mul (l' i c) x)) pivot
                  ∙ ap (λ s. R.add s (R.mul (l' i c) (d' c))) (sums i w)
                  ∙ q.columns i c below le w in
                  cancel_mul R f (l i c) (l' i c) (d c) (p.pivots c below)
                  (cancel_left R (R.mul (l i c) (d c)) (R.mul (l' i c) (d c)) (old i)
                  (p.columns i c below le w ∙ sym same))
            ],
          )

      agree_before : (b c : ℕ) → c < b → c < j → Agree n c l l' d d'
      agree_before zero c lt below = absurd (omega arith)
      agree_before (suc b) c lt below =
          agree_next c below (λ k less. agree_before b k (omega arith) (omega arith))

      -- two factorisations have the same values
      pub part_unique : (c : ℕ) → c < j → Agree n c l l' d d'
      part_unique c lt = agree_before j c lt lt

  part_less : {n j k : ℕ} {m l : ℕ → ℕ → R.Carrier} {d : ℕ → R.Carrier} → k ≤ j
      → ArePartFactors R f n j m l d → ArePartFactors R f n k m l d
  part_less le p = record {
    unit = λ c lt. p.unit c (omega arith);
    upper = λ i c lt. p.upper i c (omega arith);
    pivots = λ c lt. p.pivots c (omega arith);
    columns = λ i c lt. p.columns i c (omega arith);
  }

  -- if pivot j has no inverse, there is no factorisation
  pub no_factorisation : (n j : ℕ) (m l l' : ℕ → ℕ → R.Carrier) (d d' : ℕ → R.Carrier)
      (w : R.Carrier)
      → j < n → ArePartFactors R f n j m l d → R.add (sum_below R j (term R l d j j)) w ≡ m j j
      → (HasInverse R f w → ⊥) → ArePartFactors R f n n m l' d' → ⊥
  no_factorisation n j m l l' d d' w lt p at none q =
      let agree = part_unique n l l' d d' (omega arith) p (part_less (omega arith) q) in
      let second = at_pivot (q.unit j lt) (q.columns j j lt (omega arith) lt) in
      let is : d' j ≡ w = cancel_left R (d' j) w (sum_below R j (term R l' d' j j))
      (second ∙ sym (ap (λ s. R.add s w) (sym (same_terms n l l' d d' j j lt lt agree)) ∙ at)) in
      none (subst (HasInverse R f) is (q.pivots j lt))
