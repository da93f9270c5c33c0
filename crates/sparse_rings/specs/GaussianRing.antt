-- Gaussian numbers over a commutative ring: pairs (a, b), read as a + b i with i i = -1.
use Rattle.std.specs.Prelude.{◌≡◌}
use Rattle.std.proofs.Common.{sym, ap, ◌∙◌}
use Rattle.sparse_algebra.specs.Algebra.{RingLaws, CommRing}
use Rattle.sparse_algebra.proofs.RingLemmas.{add_cross, distrib_right, mul_zero, neg_add, neg_zero}
use Rattle.sparse_algebra.proofs.Products.{mul_neg}
use Rattle.sparse_rings.specs.InnerPairs.{same_pair, same_sum}
use Rattle.sparse_rings.specs.InnerPairs.{neg_mul, crossed, crossed_one, crossed_sum}

module _ (R : CommRing) where
  -- a real and an imaginary part
  abbrev pub GaussianElement : Type 0
  GaussianElement = R.Carrier × R.Carrier

  abbrev pub gaussian_add : GaussianElement → GaussianElement → GaussianElement
  gaussian_add x y = (R.add x.0 y.0, R.add x.1 y.1)

  -- (a + b i) (c + d i) = (a c - b d) + (a d + b c) i
  abbrev pub gaussian_mul : GaussianElement → GaussianElement → GaussianElement
  gaussian_mul x y = (
    R.add (R.mul x.0 y.0) (R.neg (R.mul x.1 y.1)),
    R.add (R.mul x.0 y.1) (R.mul x.1 y.0),
  )

  abbrev pub gaussian_neg : GaussianElement → GaussianElement
  gaussian_neg x = (R.neg x.0, R.neg x.1)

  -- a - b i
  abbrev pub gaussian_conjugate : GaussianElement → GaussianElement
  gaussian_conjugate x = (x.0, R.neg x.1)

  -- a a + b b
  abbrev pub gaussian_norm : GaussianElement → R.Carrier
  gaussian_norm x = R.add (R.mul x.0 x.0) (R.mul x.1 x.1)

  -- (A - B) + -(C + D) = (A - C) + -(D + B)
  regrouped : (a b c d : R.Carrier)
      → R.add (R.add a (R.neg b)) (R.neg (R.add c d))
      ≡ R.add (R.add a (R.neg c)) (R.neg (R.add d b))
  regrouped a b c d =
      ap (R.add (R.add a (R.neg b))) (neg_add R c d)
      ∙ add_cross R a (R.neg b) (R.neg c) (R.neg d)
      ∙ ap (R.add (R.add a (R.neg c)))
      (R.laws.add_comm (R.neg b) (R.neg d) ∙ sym (neg_add R d b))

  real_of_three : (a b c d e f : R.Carrier)
      → R.add (R.mul (R.add (R.mul a c) (R.neg (R.mul b d))) e)
      (R.neg (R.mul (R.add (R.mul a d) (R.mul b c)) f))
      ≡ R.add (R.mul a (R.add (R.mul c e) (R.neg (R.mul d f))))
      (R.neg (R.mul b (R.add (R.mul c f) (R.mul d e))))
  real_of_three a b c d e f =
      let ace = R.mul a (R.mul c e) in
      let bde = R.mul b (R.mul d e) in
      let adf = R.mul a (R.mul d f) in
      let bcf = R.mul b (R.mul c f) in
      let first : R.mul (R.add (R.mul a c) (R.neg (R.mul b d))) e ≡ R.add ace (R.neg bde) =
      distrib_right R (R.mul a c) (R.neg (R.mul b d)) e
      ∙ same_sum R _ _ _ _ (R.laws.mul_assoc a c e)
      (neg_mul R (R.mul b d) e ∙ ap R.neg (R.laws.mul_assoc b d e)) in
      let second : R.mul (R.add (R.mul a d) (R.mul b c)) f ≡ R.add adf bcf =
      distrib_right R (R.mul a d) (R.mul b c) f
      ∙ same_sum R _ _ _ _ (R.laws.mul_assoc a d f) (R.laws.mul_assoc b c f) in
      let third : R.add ace (R.neg adf) ≡ R.mul a (R.add (R.mul c e) (R.neg (R.mul d f))) =
      sym (R.laws.distrib a (R.mul c e) (R.neg (R.mul d f))
      ∙ ap (R.add ace) (mul_neg R a (R.mul d f))) in
      same_sum R _ _ _ _ first (ap R.neg second) ∙ regrouped ace bde adf bcf
      ∙ same_sum R _ _ _ _ third (ap R.neg (sym (R.laws.distrib b (R.mul c f) (R.mul d e))))

  imaginary_of_three : (a b c d e f : R.Carrier)
      → R.add (R.mul (R.add (R.mul a c) (R.neg (R.mul b d))) f)
      (R.mul (R.add (R.mul a d) (R.mul b c)) e)
      ≡ R.add (R.mul a (R.add (R.mul c f) (R.mul d e)))
      (R.mul b (R.add (R.mul c e) (R.neg (R.mul d f))))
  imaginary_of_three a b c d e f =
      let acf = R.mul a (R.mul c f) in
      let bdf = R.mul b (R.mul d f) in
      let ade = R.mul a (R.mul d e) in
      let bce = R.mul b (R.mul c e) in
      let first : R.mul (R.add (R.mul a c) (R.neg (R.mul b d))) f ≡ R.add acf (R.neg bdf) =
      distrib_right R (R.mul a c) (R.neg (R.mul b d)) f
      ∙ same_sum R _ _ _ _ (R.laws.mul_assoc a c f)
      (neg_mul R (R.mul b d) f ∙ ap R.neg (R.laws.mul_assoc b d f)) in
      let second : R.mul (R.add (R.mul a d) (R.mul b c)) e ≡ R.add ade bce =
      distrib_right R (R.mul a d) (R.mul b c) e
      ∙ same_sum R _ _ _ _ (R.laws.mul_assoc a d e) (R.laws.mul_assoc b c e) in
      let third : R.add (R.neg bdf) bce ≡ R.mul b (R.add (R.mul c e) (R.neg (R.mul d f))) =
      R.laws.add_comm (R.neg bdf) bce
      ∙ sym (R.laws.distrib b (R.mul c e) (R.neg (R.mul d f))
      ∙ ap (R.add bce) (mul_neg R b (R.mul d f))) in
      same_sum R _ _ _ _ first second ∙ add_cross R acf (R.neg bdf) ade bce
      ∙ same_sum R _ _ _ _ (sym (R.laws.distrib a (R.mul c f) (R.mul d e))) third

  -- a c - b d, at c = 1 and d = 0
  real_one : (a b : R.Carrier)
      → R.add (R.mul a R.one) (R.neg (R.mul b R.zero)) ≡ a
  real_one a b = same_sum R _ _ _ _ (R.laws.mul_one a) (ap R.neg (mul_zero R b) ∙ neg_zero R)
      ∙ R.laws.add_zero a

  real_sum : (a b c d e f : R.Carrier)
      → R.add (R.mul a (R.add c e)) (R.neg (R.mul b (R.add d f)))
      ≡ R.add (R.add (R.mul a c) (R.neg (R.mul b d))) (R.add (R.mul a e) (R.neg (R.mul b f)))
  real_sum a b c d e f = same_sum R _ _ _ _ (R.laws.distrib a c e)
      (ap R.neg (R.laws.distrib b d f) ∙ neg_add R (R.mul b d) (R.mul b f))
      ∙ add_cross R (R.mul a c) (R.mul a e) (R.neg (R.mul b d)) (R.neg (R.mul b f))

  pub gaussian_laws : RingLaws (R.zero, R.zero) (R.one, R.zero) gaussian_add gaussian_mul gaussian_neg
  gaussian_laws = record {
    add_assoc = λ x y z. same_pair _ _ (R.laws.add_assoc x.0 y.0 z.0) (R.laws.add_assoc x.1 y.1 z.1);
    add_comm = λ x y. same_pair _ _ (R.laws.add_comm x.0 y.0) (R.laws.add_comm x.1 y.1);
    add_zero = λ x. same_pair _ _ (R.laws.add_zero x.0) (R.laws.add_zero x.1);
    add_neg = λ x. same_pair _ _ (R.laws.add_neg x.0) (R.laws.add_neg x.1);
    mul_assoc = λ x y z. same_pair _ _ (real_of_three x.0 x.1 y.0 y.1 z.0 z.1)
        (imaginary_of_three x.0 x.1 y.0 y.1 z.0 z.1);
    mul_comm = λ x y. same_pair _ _
        (same_sum R _ _ _ _ (R.laws.mul_comm x.0 y.0) (ap R.neg (R.laws.mul_comm x.1 y.1)))
        (crossed R x.0 x.1 y.0 y.1);
    mul_one = λ x. same_pair _ _ (real_one x.0 x.1) (crossed_one R x.0 x.1);
    distrib = λ x y z. same_pair _ _ (real_sum x.0 x.1 y.0 y.1 z.0 z.1)
        (crossed_sum R x.0 x.1 y.0 y.1 z.0 z.1);
  }

  abbrev pub gaussian_ring : CommRing
  gaussian_ring = record {
    Carrier = GaussianElement;
    zero = (R.zero, R.zero);
    one = (R.one, R.zero);
    add = gaussian_add;
    mul = gaussian_mul;
    neg = gaussian_neg;
    laws = gaussian_laws;
  }
