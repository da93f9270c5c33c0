-- Consequences of the laws of a commutative ring.
use Rattle.std.proofs.Common.{◌≡◌, sym, ap, ◌∙◌}
use Rattle.sparse_algebra.specs.Algebra.{CommRing}

module _ (R : CommRing) where
  pub zero_add : (a : R.Carrier) → R.add R.zero a ≡ a
  zero_add a = R.laws.add_comm R.zero a ∙ R.laws.add_zero a

  -- a + (b + c) = b + (a + c)
  pub add_swap : (a b c : R.Carrier) → R.add a (R.add b c) ≡ R.add b (R.add a c)
  add_swap a b c = sym (R.laws.add_assoc a b c) ∙ ap (λ x. R.add x c) (R.laws.add_comm a b)
      ∙ R.laws.add_assoc b a c

  -- (a + b) + (c + d) = (a + c) + (b + d)
  pub add_cross : (a b c d : R.Carrier)
      → R.add (R.add a b) (R.add c d) ≡ R.add (R.add a c) (R.add b d)
  add_cross a b c d = R.laws.add_assoc a b (R.add c d) ∙ ap (R.add a) (add_swap b c d)
      ∙ sym (R.laws.add_assoc a c (R.add b d))

  -- the additive inverse is unique: if a + b = 0, then b = -a
  pub neg_unique : (a b : R.Carrier) → R.add a b ≡ R.zero → b ≡ R.neg a
  neg_unique a b e =
      sym (zero_add b) ∙ ap (λ x. R.add x b) (sym (R.laws.add_neg a) ∙ R.laws.add_comm a (R.neg a))
      ∙ R.laws.add_assoc (R.neg a) a b ∙ ap (R.add (R.neg a)) e ∙ R.laws.add_zero (R.neg a)

  -- a * 0 = 0
  pub mul_zero : (a : R.Carrier) → R.mul a R.zero ≡ R.zero
  mul_zero a =
      let t = R.mul a R.zero in
      let twice : R.add t t ≡ t = sym (R.laws.distrib a R.zero R.zero)
      ∙ ap (R.mul a) (R.laws.add_zero R.zero) in
      sym (R.laws.add_zero t) ∙ ap (R.add t) (sym (R.laws.add_neg t))
      ∙ sym (R.laws.add_assoc t t (R.neg t)) ∙ ap (λ x. R.add x (R.neg t)) twice
      ∙ R.laws.add_neg t

  pub zero_mul : (a : R.Carrier) → R.mul R.zero a ≡ R.zero
  zero_mul a = R.laws.mul_comm R.zero a ∙ mul_zero a

  -- (a + b) * c = a * c + b * c
  pub distrib_right : (a b c : R.Carrier) → R.mul (R.add a b) c ≡ R.add (R.mul a c) (R.mul b c)
  distrib_right a b c = R.laws.mul_comm (R.add a b) c ∙ R.laws.distrib c a b
      ∙ ap (λ x. R.add x (R.mul c b)) (R.laws.mul_comm c a)
      ∙ ap (R.add (R.mul a c)) (R.laws.mul_comm c b)

  pub neg_zero : R.neg R.zero ≡ R.zero
  neg_zero = sym (neg_unique R.zero R.zero (R.laws.add_zero R.zero))

  pub neg_add : (a b : R.Carrier) → R.neg (R.add a b) ≡ R.add (R.neg a) (R.neg b)
  neg_add a b = sym (neg_unique (R.add a b) (R.add (R.neg a) (R.neg b))
      (add_cross a b (R.neg a) (R.neg b)
      ∙ ap (λ x. R.add x (R.add b (R.neg b))) (R.laws.add_neg a)
      ∙ ap (R.add R.zero) (R.laws.add_neg b) ∙ R.laws.add_zero R.zero))

  -- if a + c = b + c, then a = b
  pub cancel : (a b c : R.Carrier) → R.add a c ≡ R.add b c → a ≡ b
  cancel a b c e =
      let back : (x : R.Carrier) → R.add (R.add x c) (R.neg c) ≡ x =
      λ x. R.laws.add_assoc x c (R.neg c) ∙ ap (R.add x) (R.laws.add_neg c)
      ∙ R.laws.add_zero x in
      sym (back a) ∙ ap (λ x. R.add x (R.neg c)) e ∙ back b
