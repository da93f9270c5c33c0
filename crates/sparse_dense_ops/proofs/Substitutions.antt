-- Forward and backward substitution, column by column of the triangle.
use Rattle.std.proofs.Common.{◌≡◌, ◌≢◌, ℕ, suc, ◌+◌, ◌*◌, ◌<◌, ◌≤◌, inl, inr, List, All, get_or, ap}
use Rattle.std.proofs.Common.{sym, ◌∙◌, refl, arith, add-one}
use Rattle.std.specs.Prelude.{zip}
use Rattle.sparse_algebra.proofs.Cases.{three}
use Rattle.sparse_algebra.specs.Algebra.{CommRing}
use Rattle.sparse_algebra.specs.Sums.{dot_of, sum_below}
use Rattle.sparse_algebra.proofs.Products.{mul_neg}
use Rattle.sparse_algebra.proofs.RingLemmas.{mul_zero}
use Rattle.sparse_algebra.proofs.SumLemmas.{sum_below-same, sum_by-same}
use Rattle.sparse_compressed.proofs.LaneValues.{product_by_lane}
use Rattle.sparse_dense_ops.specs.InnerKernels.{IsWrittenAt, strided}
use Rattle.sparse_dense_ops.specs.InnerColumns.{IsEliminated, SolvesColumn}
use Rattle.sparse_dense_ops.specs.SparseVectors.{elements, sparse_elements}
use Rattle.sparse_dense_ops.proofs.ColumnUpdates.{written_others}
use Rattle.sparse_dense_ops.proofs.RingSteps.{mul_off, add_off, moved_over, back, divided}
use Rattle.sparse_dense_ops.proofs.RingSteps.{sum_below-split}

-- t is zero above the diagonal
abbrev pub IsLower : (R : CommRing) → (ℕ → ℕ → R.Carrier) → Type 0
IsLower R t = (i j : ℕ) → i < j → t i j ≡ R.zero

-- column k of a lower triangle t with n rows: the entries below its diagonal, as a sparse vector,
-- and the inverse of its diagonal entry
pub record IsPivotColumn (R : CommRing) {T : Type 0} (f : T → R.Carrier) (n : ℕ)
    (t : ℕ → ℕ → R.Carrier) (k : ℕ) (rows : List ℕ) (values : List T) (e : T) : Type 0 where
  pub low : IsLower R t
  pub within : k < n
  pub inside : All (λ i. i < n) rows
  pub inverts : R.mul (t k k) (f e) ≡ R.one
  pub below : (i : ℕ) → k < i → sparse_elements R f rows values i ≡ t i k
  pub above : (i : ℕ) → i ≤ k → sparse_elements R f rows values i ≡ R.zero

-- after the first k columns of forward substitution: x has the solution in the rows before k, and
-- from k on b minus the terms of the columns before k
pub record IsForward (R : CommRing) (n k : ℕ) (t : ℕ → ℕ → R.Carrier) (x b : ℕ → R.Carrier) :
    Type 0 where
  pub before : (i : ℕ) → i < n → i < k → sum_below R k (λ c. R.mul (t i c) (x c)) ≡ b i
  pub after : (i : ℕ) → i < n → k ≤ i
      → R.add (sum_below R k (λ c. R.mul (t i c) (x c))) (x i) ≡ b i

-- after the rows from k on of backward substitution: they are solved, and the rows before k are
-- unchanged
pub record IsBackward (R : CommRing) (n k : ℕ) (t : ℕ → ℕ → R.Carrier) (x b : ℕ → R.Carrier) :
    Type 0 where
  pub solved : (i : ℕ) → i < n → k ≤ i → sum_below R n (λ c. R.mul (t c i) (x c)) ≡ b i
  pub waiting : (i : ℕ) → i < k → x i ≡ b i

module _ {R : CommRing} {n k : ℕ} {t : ℕ → ℕ → R.Carrier} where
  pub forward_end : {x b : ℕ → R.Carrier} → IsForward R n k t x b → k ≡ n → SolvesColumn R n t x b
  forward_end {x} h end i lt = ap (λ n. sum_below R n (λ c. R.mul (t i c) (x c))) (sym end)
      ∙ h.before i lt (omega (arith, lt, end))

  pub backward_start : {x : ℕ → R.Carrier} → n ≤ k → IsBackward R n k t x x
  backward_start end =
      record { solved = λ i lt le. absurd (omega (arith, end, lt, le)); waiting = λ i _. refl }

  pub backward_end : {x b : ℕ → R.Carrier} → IsBackward R n k t x b → k ≡ 0
      → SolvesColumn R n (λ i j. t j i) x b
  backward_end h end i lt = h.solved i lt (omega (arith, end))

module _ {R : CommRing} {T : Type 0} {f : T → R.Carrier} {n : ℕ} {t : ℕ → ℕ → R.Carrier} {k : ℕ}
    {rows : List ℕ} {values : List T} {e : T} (column : IsPivotColumn R f n t k rows values e) where
  -- a step of forward substitution: y k is the solution in row k, and its terms are subtracted in
  -- the rows below
  pub forward_step : {m : ℕ} {x y b : ℕ → R.Carrier} → IsForward R n k t x b
      → IsEliminated R f m k rows values (f e) x y → m ≡ n → IsForward R n (k + 1) t y b
  forward_step {x = x} {y} {b} h eliminated size = rw add-one (record {
    before = λ i l under. elim (three i k) [
      | inl less ↦ grown i ∙ add_off R (old i) (R.mul (t i k) (y k))
          (mul_off R (t i k) (y k) (column.low i k less)) ∙ h.before i l less
      | inr (inl more) ↦ absurd (omega (arith, more, under))
      | inr (inr is) ↦
          ap (λ i. sum_below R (suc k) (λ c. R.mul (t i c) (y c))) is ∙ grown k
          ∙ ap (R.add (old k))
          (ap (R.mul (t k k)) eliminated.answer ∙ divided R (t k k) (f e) (x k) column.inverts)
          ∙ h.after k column.within (omega arith) ∙ ap b (sym is)
    ];
    after = λ i l over.
        ap (λ z. R.add z (y i)) (grown i) ∙ ap (R.add (R.add (old i) (R.mul (t i k) (y k))))
        (taken_off i l (omega (arith, over))) ∙ moved_over R (old i) (R.mul (t i k) (y k)) (x i)
        ∙ h.after i l (omega (arith, over));
  })
    where
      old : ℕ → R.Carrier
      old i = sum_below R k (λ c. R.mul (t i c) (x c))

      kept : (i : ℕ) → i < k → y i ≡ x i
      kept i less =
          eliminated.others i (omega (arith, less, size, column.within)) (λ is. absurd (omega arith))
          ∙ add_off R _ _ (ap (R.mul (R.neg (y k))) (column.above i (omega arith)) ∙ mul_zero R _)

      grown : (i : ℕ) → sum_below R (suc k) (λ c. R.mul (t i c) (y c)) ≡ R.add (old i)
          (R.mul (t i k) (y k))
      grown i = ap (λ z. R.add z (R.mul (t i k) (y k)))
          (sum_below-same R k _ _ (λ c l. ap (R.mul (t i c)) (kept c l)))

      taken_off : (i : ℕ) → i < n → k < i → y i ≡ R.add (x i) (R.neg (R.mul (t i k) (y k)))
      taken_off i l more =
          eliminated.others i (omega (arith, l, size)) (λ is. absurd (omega arith))
          ∙ ap (R.add (x i)) (ap (R.mul (R.neg (y k))) (column.below i more)
          ∙ R.laws.mul_comm _ _ ∙ mul_neg R (t i k) (y k))

  -- a step of backward substitution: y k is the solution in row k, computed from the rows after k
  pub backward_step : {z : T} {j l : ℕ} {x y : List T} {b : ℕ → R.Carrier} {known : R.Carrier}
      → IsBackward R n j t (elements R f z x) b
      → IsWrittenAt R f z k (R.mul (R.add (f (get_or x k z)) (R.neg known)) (f e)) x y
      → known ≡ dot_of R f rows values (strided R f z x 1) → j ≡ k + 1 → l ≡ k
      → IsBackward R n l t (elements R f z y) b
  backward_step {z} {j} {l} {x} {y} {b} {known} h one known_is from to = record {
    solved = λ i lt over. elim (three k i) [
      | inl more ↦ sum_below-same R n _ _ (λ c _. unmoved c i more)
          ∙ h.solved i lt (omega (arith, more, from))
      | inr (inl less) ↦ absurd (omega (arith, less, over, to))
      | inr (inr is) ↦ ap (λ i. sum_below R n (λ c. R.mul (t c i) (f (get_or y c z)))) (sym is)
          ∙ here ∙ h.waiting k (omega (arith, from)) ∙ ap b is
    ];
    waiting = λ i under. same i (λ is. absurd (omega (arith, under, is, to)))
        ∙ h.waiting i (omega (arith, under, from, to));
  }
    where
      u : ℕ → R.Carrier
      u = sparse_elements R f rows values

      -- the dot product with step 1 is that with all entries
      whole : known ≡ sum_below R n (λ c. R.mul (u c) (f (get_or x c z)))
      whole = known_is ∙ sum_by-same R _ _ (λ s.
          let one : s.0 * 1 ≡ s.0 = omega arith in
          ap (λ p. R.mul (f s.1) (f (get_or x p z))) one) (zip rows values)
          ∙ sym (product_by_lane R f n (elements R f z x) rows values column.inside)

      same : (i : ℕ) → i ≢ k → f (get_or y i z) ≡ f (get_or x i z)
      same i ne = ap f (written_others one i ne)

      unmoved : (c i : ℕ) → k < i
          → R.mul (t c i) (f (get_or y c z)) ≡ R.mul (t c i) (f (get_or x c z))
      unmoved c i more = elim (three c k) [
        | inl less ↦ ap (R.mul (t c i)) (same c (λ is. absurd (omega (arith, is, less))))
        | inr (inl above) ↦ ap (R.mul (t c i)) (same c (λ is. absurd (omega (arith, is, above))))
        | inr (inr is) ↦
            let off : t c i ≡ R.zero = column.low c i (omega (arith, is, more)) in
            mul_off R (t c i) _ off ∙ sym (mul_off R (t c i) _ off)
      ]

      beside : (c : ℕ) → c < n → c ≢ k
          → R.mul (t c k) (f (get_or y c z)) ≡ R.mul (u c) (f (get_or x c z))
      beside c _ ne = elim (three k c) [
        | inl more ↦ ap (R.mul (t c k)) (same c ne)
            ∙ ap (λ a. R.mul a (f (get_or x c z))) (sym (column.below c more))
        | inr (inl less) ↦ mul_off R (t c k) _ (column.low c k less)
            ∙ sym (mul_off R (u c) _ (column.above c (omega arith)))
        | inr (inr is) ↦ absurd (ne (sym is))
      ]

      here : sum_below R n (λ c. R.mul (t c k) (f (get_or y c z))) ≡ f (get_or x k z)
      here =
          sum_below-split R n k _ (λ c. R.mul (u c) (f (get_or x c z))) column.within
          (mul_off R (u k) _ (column.above k (omega arith))) beside
          ∙ ap (R.add (R.mul (t k k) (f (get_or y k z)))) (sym whole)
          ∙ ap (λ v. R.add v known) (ap (R.mul (t k k)) one.value
          ∙ divided R (t k k) (f e) (R.add (f (get_or x k z)) (R.neg known)) column.inverts)
          ∙ back R (f (get_or x k z)) known
