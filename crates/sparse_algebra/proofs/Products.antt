-- Identities of products in a commutative ring.
use Rattle.std.proofs.Common.{◌≡◌, sym, ap, ◌∙◌}
use Rattle.sparse_algebra.specs.Algebra.{CommRing}
use Rattle.sparse_algebra.proofs.RingLemmas.{mul_zero, neg_unique}

module _ (R : CommRing) where
  -- a * -b = -(a * b)
  pub mul_neg : (a b : R.Carrier) → R.mul a (R.neg b) ≡ R.neg (R.mul a b)
  mul_neg a b = neg_unique R (R.mul a b) (R.mul a (R.neg b))
      (sym (R.laws.distrib a b (R.neg b)) ∙ ap (R.mul a) (R.laws.add_neg b) ∙ mul_zero R a)

  -- a * (b * c) = b * (a * c)
  pub mul_swap : (a b c : R.Carrier) → R.mul a (R.mul b c) ≡ R.mul b (R.mul a c)
  mul_swap a b c = sym (R.laws.mul_assoc a b c) ∙ ap (λ x. R.mul x c) (R.laws.mul_comm a b)
      ∙ R.laws.mul_assoc b a c

  -- (a * b) * (c * d) = (a * c) * (b * d)
  pub mul_cross : (a b c d : R.Carrier)
      → R.mul (R.mul a b) (R.mul c d) ≡ R.mul (R.mul a c) (R.mul b d)
  mul_cross a b c d = R.laws.mul_assoc a b (R.mul c d) ∙ ap (R.mul a) (mul_swap b c d)
      ∙ sym (R.laws.mul_assoc a c (R.mul b d))

  -- a unit m cancels: if m * a = m * b, then a = b
  pub unit_cancels : (m t a b : R.Carrier) → R.mul m t ≡ R.one → R.mul m a ≡ R.mul m b → a ≡ b
  unit_cancels m t a b e same =
      let back : (c : R.Carrier) → R.mul t (R.mul m c) ≡ c = λ c.
      sym (R.laws.mul_assoc t m c) ∙ ap (λ x. R.mul x c) (R.laws.mul_comm t m ∙ e)
      ∙ R.laws.mul_comm R.one c ∙ R.laws.mul_one c in
      sym (back a) ∙ ap (R.mul t) same ∙ back b
