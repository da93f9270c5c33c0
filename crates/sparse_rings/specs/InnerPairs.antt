-- Pairs of ring elements: equality, and identities of the sums a d + b c in their products.
use Rattle.std.proofs.Common.{◌≡◌, sym, ap, ◌∙◌}
use Rattle.sparse_algebra.specs.Algebra.{CommRing}
use Rattle.sparse_algebra.proofs.RingLemmas.{zero_add, add_cross, mul_zero, neg_unique}
use Rattle.sparse_algebra.proofs.Products.{mul_neg}

-- pairs with equal parts are equal
pub same_pair : {A B : Type 0} (x y : A × B) → x.0 ≡ y.0 → x.1 ≡ y.1 → x ≡ y
same_pair x y p q = λ i. (p i, q i)

module _ (R : CommRing) where
  pub same_sum : (a b c d : R.Carrier) → a ≡ b → c ≡ d → R.add a c ≡ R.add b d
  same_sum a b c d p q = λ i. R.add (p i) (q i)

  -- ---- negation

  pub neg_neg : (a : R.Carrier) → R.neg (R.neg a) ≡ a
  neg_neg a = sym (neg_unique R (R.neg a) a (R.laws.add_comm (R.neg a) a ∙ R.laws.add_neg a))

  pub neg_mul : (a b : R.Carrier) → R.mul (R.neg a) b ≡ R.neg (R.mul a b)
  neg_mul a b = R.laws.mul_comm (R.neg a) b ∙ mul_neg R b a ∙ ap R.neg (R.laws.mul_comm b a)

  pub neg_mul_neg : (a b : R.Carrier) → R.mul (R.neg a) (R.neg b) ≡ R.mul a b
  neg_mul_neg a b = mul_neg R (R.neg a) b ∙ ap R.neg (neg_mul a b) ∙ neg_neg (R.mul a b)

  -- ---- crosswise products: a d + b c, the second part of a product of (a, b) and (c, d)

  pub crossed : (a b c d : R.Carrier)
      → R.add (R.mul a d) (R.mul b c) ≡ R.add (R.mul c b) (R.mul d a)
  crossed a b c d = R.laws.add_comm (R.mul a d) (R.mul b c)
      ∙ same_sum _ _ _ _ (R.laws.mul_comm b c) (R.laws.mul_comm a d)

  pub crossed_one : (a b : R.Carrier) → R.add (R.mul a R.zero) (R.mul b R.one) ≡ b
  crossed_one a b = same_sum _ _ _ _ (mul_zero R a) (R.laws.mul_one b) ∙ zero_add R b

  pub crossed_sum : (a b c d e f : R.Carrier)
      → R.add (R.mul a (R.add d f)) (R.mul b (R.add c e))
      ≡ R.add (R.add (R.mul a d) (R.mul b c)) (R.add (R.mul a f) (R.mul b e))
  crossed_sum a b c d e f = same_sum _ _ _ _ (R.laws.distrib a d f) (R.laws.distrib b c e)
      ∙ add_cross R (R.mul a d) (R.mul a f) (R.mul b c) (R.mul b e)
