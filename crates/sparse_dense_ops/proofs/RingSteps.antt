-- Facts about sums, differences and inverses that follow from the ring laws.
use Rattle.std.proofs.Common.{◌≡◌, ◌≢◌, ℕ, zero, suc, ◌<◌, inl, inr, ap, sym, ◌∙◌, arith}
use Rattle.sparse_algebra.proofs.Cases.{three}
use Rattle.sparse_algebra.specs.Algebra.{CommRing}
use Rattle.sparse_algebra.specs.Sums.{sum_below}
use Rattle.sparse_algebra.proofs.RingLemmas.{add_cross, mul_zero}
use Rattle.sparse_algebra.proofs.SumLemmas.{sum_below-same}

module _ (R : CommRing) where
  -- a product whose left operand is zero is zero
  pub mul_off : (a b : R.Carrier) → a ≡ R.zero → R.mul a b ≡ R.zero
  mul_off a b e = ap (λ x. R.mul x b) e ∙ R.laws.mul_comm R.zero b ∙ mul_zero R b

  pub add_off : (a b : R.Carrier) → b ≡ R.zero → R.add a b ≡ a
  add_off a b e = ap (R.add a) e ∙ R.laws.add_zero a

  -- (s + m) + (x - m) is s + x
  pub moved_over : (s m x : R.Carrier) → R.add (R.add s m) (R.add x (R.neg m)) ≡ R.add s x
  moved_over s m x = add_cross R s m x (R.neg m) ∙ ap (R.add (R.add s x)) (R.laws.add_neg m)
      ∙ R.laws.add_zero _

  -- (x - m) + m is x
  pub back : (x m : R.Carrier) → R.add (R.add x (R.neg m)) m ≡ x
  back x m = R.laws.add_assoc x (R.neg m) m
      ∙ ap (R.add x) (R.laws.add_comm (R.neg m) m ∙ R.laws.add_neg m) ∙ R.laws.add_zero x

  -- t * (x * e) is x where e is the inverse of t
  pub divided : (t e x : R.Carrier) → R.mul t e ≡ R.one → R.mul t (R.mul x e) ≡ x
  divided t e x h = ap (R.mul t) (R.laws.mul_comm x e) ∙ sym (R.laws.mul_assoc t e x)
      ∙ ap (λ c. R.mul c x) h ∙ R.laws.mul_comm R.one x ∙ R.laws.mul_one x

  -- a sum is its term k, plus the same sum with that term zero
  pub sum_below-split : (n k : ℕ) (f g : ℕ → R.Carrier) → k < n → g k ≡ R.zero
      → ((c : ℕ) → c < n → c ≢ k → f c ≡ g c) → sum_below R n f ≡ R.add (f k) (sum_below R n g)
  sum_below-split zero k f g lt off same = absurd (omega arith)
  sum_below-split (suc n) k f g lt off same = elim (three k n) [
    | inl below ↦
        ap (λ x. R.add x (f n)) (sum_below-split n k f g below off
        (λ c l ne. same c (omega arith) ne)) ∙ ap (R.add (R.add (f k) (sum_below R n g)))
        (same n (omega arith) (λ e. absurd (omega (arith, e, below))))
        ∙ R.laws.add_assoc (f k) (sum_below R n g) (g n)
    | inr (inl past) ↦ absurd (omega arith)
    | inr (inr at) ↦
        let first : sum_below R n f ≡ sum_below R n g =
        sum_below-same R n f g (λ c l. same c (omega arith)
        (λ e. absurd (omega (arith, e, l, at)))) in
        let last : R.add (sum_below R n g) (g n) ≡ sum_below R n g =
        add_off (sum_below R n g) (g n) (ap g (sym at) ∙ off) in
        ap (λ x. R.add x (f n)) first ∙ R.laws.add_comm (sum_below R n g) (f n)
        ∙ ap (λ c. R.add (f c) (sum_below R n g)) (sym at) ∙ ap (R.add (f k)) (sym last)
  ]
