-- Laws of rings: products with zero and one, cancellation of elements with an inverse, and sums.
use Rattle.std.proofs.Common.{◌≡◌, ℕ, zero, suc, ◌<◌, ◌≤◌, inl, inr, ap, sym, ◌∙◌, arith}
use Rattle.sparse_algebra.proofs.Cases.{le_cases}
use Rattle.sparse_algebra.specs.Algebra.{CommRing}
use Rattle.sparse_algebra.specs.Sums.{sum_below}
use Rattle.sparse_algebra.proofs.Products.{unit_cancels}
use Rattle.sparse_algebra.proofs.RingLemmas.{mul_zero, cancel}
use Rattle.sparse_algebra.specs.Inverses.{HasInverse}
use Rattle.sparse_dense_ops.proofs.RingSteps.{add_off}

module _ (R : CommRing) where
  -- a product with zero on the right
  pub mul_off_right : (a b : R.Carrier) → b ≡ R.zero → R.mul a b ≡ R.zero
  mul_off_right a b e = ap (R.mul a) e ∙ mul_zero R a

  -- a product with one on the left
  pub one_mul : (a b : R.Carrier) → a ≡ R.one → R.mul a b ≡ b
  one_mul a b e = ap (λ x. R.mul x b) e ∙ R.laws.mul_comm R.one b ∙ R.laws.mul_one b

  -- an element with an inverse cancels
  pub cancel_mul : {X : Type 0} (f : X → R.Carrier) (a b c : R.Carrier) → HasInverse R f c
      → R.mul a c ≡ R.mul b c → a ≡ b
  cancel_mul f a b c inv h = unit_cancels R c (f inv.0) a b inv.1
      (R.laws.mul_comm c a ∙ h ∙ R.laws.mul_comm b c)

  pub cancel_left : (a b c : R.Carrier) → R.add c a ≡ R.add c b → a ≡ b
  cancel_left a b c h = cancel R a b c (R.laws.add_comm a c ∙ h ∙ R.laws.add_comm c b)

  -- if one is zero, all elements are equal
  pub trivial : R.one ≡ R.zero → (a b : R.Carrier) → a ≡ b
  trivial h a b =
      let none : (x : R.Carrier) → x ≡ R.zero =
      λ x. sym (R.laws.mul_one x) ∙ ap (R.mul x) h ∙ mul_zero R x in
      none a ∙ sym (none b)

  -- the terms from c on are zero
  pub sum_below-past : (n c : ℕ) (f : ℕ → R.Carrier) → c ≤ n
      → ((k : ℕ) → c ≤ k → k < n → f k ≡ R.zero) → sum_below R n f ≡ sum_below R c f
  sum_below-past zero c f le none = let e : zero ≡ c = omega arith in ap (λ m. sum_below R m f) e
  sum_below-past (suc n) c f le none = elim (le_cases c (suc n) le) [
    | inl less ↦ add_off R (sum_below R n f) (f n) (none n (omega arith) (omega arith))
        ∙ sum_below-past n c f (omega arith) (λ k a b. none k a (omega arith))
    | inr same ↦ ap (λ m. sum_below R m f) (sym same)
  ]
