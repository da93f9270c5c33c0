-- Newton's iteration for an inverse in a commutative ring.
use Rattle.std.proofs.Common.{◌≡◌, ℕ, zero, suc, ◌≤◌, inl, inr, arith, sym, ap, ◌∙◌, refl}
use Rattle.sparse_algebra.proofs.Cases.{le_cases}
use Rattle.sparse_algebra.specs.Algebra.{CommRing}
use Rattle.sparse_algebra.proofs.RingLemmas.{zero_add, mul_zero, zero_mul}
use Rattle.sparse_algebra.specs.InnerNewton.{squared, one_minus}
use Rattle.sparse_algebra.proofs.Products.{mul_cross}

module _ (R : CommRing) where
  -- if a + b = c, then a = c - b
  pub from_sum : (a b c : R.Carrier) → R.add a b ≡ c → a ≡ R.add c (R.neg b)
  from_sum a b c e = sym (ap (λ x. R.add x (R.neg b)) (sym e) ∙ R.laws.add_assoc a b (R.neg b)
      ∙ ap (R.add a) (R.laws.add_neg b) ∙ R.laws.add_zero a)

  pub one_minus-add : (p : R.Carrier) → R.add (one_minus R p) p ≡ R.one
  one_minus-add p = R.laws.add_assoc R.one (R.neg p) p
      ∙ ap (R.add R.one) (R.laws.add_comm (R.neg p) p ∙ R.laws.add_neg p) ∙ R.laws.add_zero R.one

  -- a step squares the residual: if e = 1 - x y, then 1 - x (y (1 + e)) = e e
  pub newton_step : (x y : R.Carrier)
      → let e = one_minus R (R.mul x y) in one_minus R (R.mul x (R.mul y (R.add R.one e))) ≡ R.mul e
      e
  newton_step x y =
      let p : R.Carrier = R.mul x y in
      let e : R.Carrier = one_minus R p in
      let next : R.Carrier = R.mul x (R.mul y (R.add R.one e)) in
      let next_is : next ≡ R.add p (R.mul e p) =
      sym (R.laws.mul_assoc x y (R.add R.one e)) ∙ R.laws.distrib p R.one e
      ∙ ap (λ z. R.add z (R.mul p e)) (R.laws.mul_one p) ∙ ap (R.add p) (R.laws.mul_comm p e)
      in
      let whole : R.add (R.mul e e) next ≡ R.one =
      ap (R.add (R.mul e e)) (next_is ∙ R.laws.add_comm p (R.mul e p))
      ∙ sym (R.laws.add_assoc (R.mul e e) (R.mul e p) p)
      ∙ ap (λ z. R.add z p) (sym (R.laws.distrib e e p) ∙ ap (R.mul e) (one_minus-add p)
      ∙ R.laws.mul_one e) ∙ one_minus-add p
      in
      sym (from_sum (R.mul e e) next R.one whole)

  -- an element whose residual 1 - p is zero is one
  pub one_from_no_residual : (p : R.Carrier) → one_minus R p ≡ R.zero → p ≡ R.one
  one_from_no_residual p e = sym (zero_add R p) ∙ ap (λ z. R.add z p) (sym e) ∙ one_minus-add p

  -- one minus an odd element is even: 1 - (two q + 1) = two (-q)
  pub one_minus-odd : (two q x : R.Carrier) → x ≡ R.add (R.mul two q) R.one
      → one_minus R x ≡ R.mul two (R.neg q)
  one_minus-odd two q x e =
      let t : R.Carrier = R.mul two (R.neg q) in
      sym (from_sum t x R.one (ap (R.add t) e ∙ sym (R.laws.add_assoc t (R.mul two q) R.one)
      ∙ ap (λ z. R.add z R.one) (sym (R.laws.distrib two (R.neg q) q)
      ∙ ap (R.mul two) (R.laws.add_comm (R.neg q) q ∙ R.laws.add_neg q) ∙ mul_zero R two)
      ∙ zero_add R R.one))

  pub squared-mul : (n : ℕ) (a b : R.Carrier)
      → squared R n (R.mul a b) ≡ R.mul (squared R n a) (squared R n b)
  squared-mul zero a b = refl
  squared-mul (suc n) a b = ap (λ z. R.mul z z) (squared-mul n a b)
      ∙ mul_cross R (squared R n a) (squared R n b) (squared R n a) (squared R n b)

  -- once a power c ^ (2 ^ k) is zero, the later ones are
  pub squared-zero : (k n : ℕ) (c : R.Carrier) → k ≤ n → squared R k c ≡ R.zero
      → squared R n c ≡ R.zero
  squared-zero k zero c le h = let none : zero ≡ k = omega arith in ap (λ j. squared R j c) none ∙ h
  squared-zero k (suc n) c le h = elim (le_cases k (suc n) le) [
    | inl lt ↦ ap (λ z. R.mul z (squared R n c)) (squared-zero k n c (omega arith) h)
        ∙ zero_mul R (squared R n c)
    | inr same ↦ ap (λ j. squared R j c) (sym same) ∙ h
  ]
