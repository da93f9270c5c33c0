-- Dual numbers over a commutative ring: pairs (a, b), read as a + b e with e e = 0.
use Rattle.std.specs.Prelude.{◌≡◌}
use Rattle.std.proofs.Common.{sym, ap, ◌∙◌}
use Rattle.sparse_algebra.specs.Algebra.{RingLaws, CommRing}
use Rattle.sparse_algebra.proofs.RingLemmas.{distrib_right}
use Rattle.sparse_rings.specs.InnerPairs.{same_pair, same_sum, crossed}
use Rattle.sparse_rings.specs.InnerPairs.{crossed_one, crossed_sum}

module _ (R : CommRing) where
  -- a number and its derivative
  abbrev pub DualElement : Type 0
  DualElement = R.Carrier × R.Carrier

  -- the derivative of a sum is the sum of the derivatives
  abbrev pub dual_add : DualElement → DualElement → DualElement
  dual_add x y = (R.add x.0 y.0, R.add x.1 y.1)

  -- the derivative of a product is x y' + x' y
  abbrev pub dual_mul : DualElement → DualElement → DualElement
  dual_mul x y = (R.mul x.0 y.0, R.add (R.mul x.0 y.1) (R.mul x.1 y.0))

  abbrev pub dual_neg : DualElement → DualElement
  dual_neg x = (R.neg x.0, R.neg x.1)

  product_of_three : (a b c d e f : R.Carrier)
      → R.add (R.mul (R.mul a c) f) (R.mul (R.add (R.mul a d) (R.mul b c)) e)
      ≡ R.add (R.mul a (R.add (R.mul c f) (R.mul d e))) (R.mul b (R.mul c e))
  product_of_three a b c d e f =
      let left : R.mul (R.add (R.mul a d) (R.mul b c)) e
      ≡ R.add (R.mul a (R.mul d e)) (R.mul b (R.mul c e)) =
      distrib_right R (R.mul a d) (R.mul b c) e
      ∙ same_sum R _ _ _ _ (R.laws.mul_assoc a d e) (R.laws.mul_assoc b c e) in
      same_sum R _ _ _ _ (R.laws.mul_assoc a c f) left
      ∙ sym (R.laws.add_assoc (R.mul a (R.mul c f)) (R.mul a (R.mul d e)) (R.mul b (R.mul c e)))
      ∙ ap (λ x. R.add x (R.mul b (R.mul c e))) (sym (R.laws.distrib a (R.mul c f) (R.mul d e)))

  pub dual_laws : RingLaws (R.zero, R.zero) (R.one, R.zero) dual_add dual_mul dual_neg
  dual_laws = record {
    add_assoc = λ x y z. same_pair _ _ (R.laws.add_assoc x.0 y.0 z.0) (R.laws.add_assoc x.1 y.1 z.1);
    add_comm = λ x y. same_pair _ _ (R.laws.add_comm x.0 y.0) (R.laws.add_comm x.1 y.1);
    add_zero = λ x. same_pair _ _ (R.laws.add_zero x.0) (R.laws.add_zero x.1);
    add_neg = λ x. same_pair _ _ (R.laws.add_neg x.0) (R.laws.add_neg x.1);
    mul_assoc = λ x y z. same_pair _ _ (R.laws.mul_assoc x.0 y.0 z.0)
        (product_of_three x.0 x.1 y.0 y.1 z.0 z.1);
    mul_comm = λ x y. same_pair _ _ (R.laws.mul_comm x.0 y.0) (crossed R x.0 x.1 y.0 y.1);
    mul_one = λ x. same_pair _ _ (R.laws.mul_one x.0) (crossed_one R x.0 x.1);
    distrib = λ x y z. same_pair _ _ (R.laws.distrib x.0 y.0 z.0)
        (crossed_sum R x.0 x.1 y.0 y.1 z.0 z.1);
  }

  abbrev pub dual_ring : CommRing
  dual_ring = record {
    Carrier = DualElement;
    zero = (R.zero, R.zero);
    one = (R.one, R.zero);
    add = dual_add;
    mul = dual_mul;
    neg = dual_neg;
    laws = dual_laws;
  }
