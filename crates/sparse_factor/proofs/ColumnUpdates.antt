-- Column j after the updates by the first columns: one update for each entry of row j of L. A
-- column without an entry in row j does not change it.
use Rattle.std.proofs.Common.{◌≡◌, ◌≢◌, ℕ, suc, ◌+◌, ◌<◌, ◌≤◌, inl, inr, List, length}
use Rattle.std.proofs.Common.{get_or, slice_index, ap, subst, ◌∙◌, arith}
use Rattle.std.proofs.lemmas.List.{get_or_default, get_or_past}
use Rattle.sparse_algebra.proofs.Cases.{three, le_cases, lt_or_ge}
use Rattle.sparse_algebra.specs.Algebra.{CommRing}
use Rattle.sparse_algebra.specs.Sums.{sum_below}
use Rattle.sparse_algebra.proofs.RingLemmas.{zero_add}
use Rattle.sparse_dense_ops.proofs.RingSteps.{moved_over}
use Rattle.sparse_factor.specs.InnerFactors.{term, IsUpdated}
use Rattle.sparse_factor.proofs.RingFacts.{mul_off_right, sum_below-past}

module _ (R : CommRing) (n j : ℕ) (l : ℕ → ℕ → R.Carrier) (d : ℕ → R.Carrier) where
  -- the update by column k
  IsUpdated-step : (k : ℕ) (w w' b : ℕ → R.Carrier) → IsUpdated R n j l d k w b
      → ((i : ℕ) → j ≤ i → i < n → w' i ≡ R.add (w i) (R.neg (term R l d i j k)))
      → IsUpdated R n j l d (suc k) w' b
  IsUpdated-step k w w' b h is i le lt =
      let t = term R l d i j k in
      let s = sum_below R k (term R l d i j) in
      ap (R.add (R.add s t)) (is i le lt) ∙ moved_over R s t (w i) ∙ h i le lt

  -- columns without an entry in row j make no update
  IsUpdated-skip : (k m : ℕ) (w b : ℕ → R.Carrier) → k ≤ m
      → ((c : ℕ) → k ≤ c → c < m → l j c ≡ R.zero) → IsUpdated R n j l d k w b
      → IsUpdated R n j l d m w b
  IsUpdated-skip k m w b le off h i low lt =
      ap (λ s. R.add s (w i)) (sum_below-past R m k (term R l d i j) le (λ c from to.
      mul_off_right R (R.mul (l i c) (d c)) (l j c) (off c from to))) ∙ h i low lt

  -- `row` lists the columns with an entry in row j; get_or row q j is the column of entry q, and j
  -- past the last entry
  module _ (row : List ℕ)
      (rising : (p q : ℕ) → p < q → q < length row → slice_index row p < slice_index row q)
      (off : (c : ℕ) → ((p : ℕ) → p < length row → slice_index row p ≢ c) → l j c ≡ R.zero) where
    first_from : (q p : ℕ) → q ≤ p → p < length row → get_or row q j ≤ slice_index row p
    first_from q p le within =
        let read = get_or_default row q j 0 (omega arith) in
        elim (le_cases q p le) [
          | inl less ↦ let r = rising q p less within in omega (arith, read, r)
          | inr same ↦ let e = ap (slice_index row) same in omega (arith, read, e)
        ]

    pub IsUpdated-start : (w : ℕ → R.Carrier) → IsUpdated R n j l d (get_or row 0 j) w w
    IsUpdated-start w = IsUpdated-skip 0 (get_or row 0 j) w w (omega arith)
        (λ c _ to. off c (λ p lt same.
        let first = first_from 0 p (omega arith) lt in omega (arith, first, same, to)))
        (λ i _ _. zero_add R (w i))

    module _ (q : ℕ) (lt : q < length row) where
      past : slice_index row q < j → suc (slice_index row q) ≤ get_or row (q + 1) j
      past below = elim (lt_or_ge (q + 1) (length row)) [
        | inl more ↦
            let r = rising q (q + 1) (omega arith) more in
            omega (arith, r, get_or_default row (q + 1) j 0 more)
        | inr none ↦ omega (arith, below, get_or_past row (q + 1) j none)
      ]

      -- no entry of row j is in a column between those of entries q and q + 1
      between : (x : ℕ) → suc (slice_index row q) ≤ x → x < get_or row (q + 1) j → (p : ℕ)
          → p < length row → slice_index row p ≢ x
      between x from to p within same = elim (three p q) [
        | inl less ↦ let r = rising p q less lt in omega (arith, r, same, from)
        | inr (inl more) ↦
            let first = first_from (q + 1) p (omega arith) within in
            omega (arith, first, same, to)
        | inr (inr at) ↦ let e = ap (slice_index row) at in omega (arith, e, same, from)
      ]

      pub IsUpdated-next : (w w' b : ℕ → R.Carrier) → slice_index row q < j
          → IsUpdated R n j l d (get_or row q j) w b
          → ((i : ℕ) → j ≤ i → i < n
          → w' i ≡ R.add (w i) (R.neg (term R l d i j (slice_index row q))))
          → IsUpdated R n j l d (get_or row (q + 1) j) w' b
      IsUpdated-next w w' b below h is =
          let here = subst (λ k. IsUpdated R n j l d k w b) (get_or_default row q j 0 lt) h in
          IsUpdated-skip (suc (slice_index row q)) (get_or row (q + 1) j) w' b (past below)
          (λ x from to. off x (between x from to))
          (IsUpdated-step (slice_index row q) w w' b here is)
