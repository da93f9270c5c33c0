-- The norm of a Gaussian number is multiplicative, and a number is a unit if and only if its norm is.
use Rattle.std.proofs.Common.{◌≡◌, sym, ap, ◌∙◌}
use Rattle.sparse_algebra.specs.Algebra.{CommRing}
use Rattle.sparse_algebra.specs.Inverses.{HasInverse}
use Rattle.sparse_algebra.proofs.RingLemmas.{mul_zero, neg_add, neg_zero}
use Rattle.sparse_algebra.proofs.Products.{mul_neg, mul_cross}
use Rattle.sparse_rings.specs.Closed.{IsValue}
use Rattle.sparse_rings.specs.RingValues.{gaussian_value}
use Rattle.sparse_rings.specs.GaussianRing.{GaussianElement, gaussian_mul, gaussian_ring}
use Rattle.sparse_rings.specs.GaussianRing.{gaussian_conjugate, gaussian_norm}
use Rattle.sparse_rings.specs.InnerPairs.{same_pair, same_sum, neg_neg}
use Rattle.sparse_rings.specs.InnerPairs.{neg_mul, neg_mul_neg}

module _ (R : CommRing) where
  -- the conjugate of a product is the product of the conjugates
  pub conjugate-mul : (x y : GaussianElement R)
      → gaussian_conjugate R (gaussian_mul R x y)
      ≡ gaussian_mul R (gaussian_conjugate R x) (gaussian_conjugate R y)
  conjugate-mul x y = same_pair _ _
      (ap (λ c. R.add (R.mul x.0 y.0) (R.neg c)) (sym (neg_mul_neg R x.1 y.1)))
      (neg_add R (R.mul x.0 y.1) (R.mul x.1 y.0)
      ∙ same_sum R _ _ _ _ (sym (mul_neg R x.0 y.1)) (sym (neg_mul R x.1 y.0)))

  -- a number times its conjugate is its norm
  pub mul-conjugate : (x : GaussianElement R)
      → gaussian_mul R x (gaussian_conjugate R x) ≡ (gaussian_norm R x, R.zero)
  mul-conjugate x = same_pair _ _
      (ap (R.add (R.mul x.0 x.0)) (ap R.neg (mul_neg R x.1 x.1) ∙ neg_neg R (R.mul x.1 x.1)))
      (same_sum R _ _ _ _ (mul_neg R x.0 x.1) (R.laws.mul_comm x.1 x.0)
      ∙ R.laws.add_comm (R.neg (R.mul x.0 x.1)) (R.mul x.0 x.1)
      ∙ R.laws.add_neg (R.mul x.0 x.1))

  -- (a, b) times a real number
  pub mul-real : (x : GaussianElement R) (t : R.Carrier)
      → gaussian_mul R x (t, R.zero) ≡ (R.mul x.0 t, R.mul x.1 t)
  mul-real x t = same_pair _ _
      (ap (R.add (R.mul x.0 t)) (ap R.neg (mul_zero R x.1) ∙ neg_zero R)
      ∙ R.laws.add_zero (R.mul x.0 t))
      (ap (λ c. R.add c (R.mul x.1 t)) (mul_zero R x.0)
      ∙ R.laws.add_comm R.zero (R.mul x.1 t) ∙ R.laws.add_zero (R.mul x.1 t))

  pub norm-mul : (x y : GaussianElement R)
      → gaussian_norm R (gaussian_mul R x y) ≡ R.mul (gaussian_norm R x) (gaussian_norm R y)
  norm-mul x y =
      let G = gaussian_ring R in
      let bar = gaussian_conjugate R in
      let whole : (gaussian_norm R (gaussian_mul R x y), R.zero)
      ≡ (R.mul (gaussian_norm R x) (gaussian_norm R y), R.mul R.zero (gaussian_norm R y)) =
      sym (mul-conjugate (gaussian_mul R x y))
      ∙ ap (gaussian_mul R (gaussian_mul R x y)) (conjugate-mul x y)
      ∙ mul_cross G x y (bar x) (bar y)
      ∙ ap (λ c. gaussian_mul R c (gaussian_mul R y (bar y))) (mul-conjugate x)
      ∙ ap (gaussian_mul R (gaussian_norm R x, R.zero)) (mul-conjugate y)
      ∙ mul-real (gaussian_norm R x, R.zero) (gaussian_norm R y) in
      ap (λ c. c.0) whole

  norm-one : gaussian_norm R (R.one, R.zero) ≡ R.one
  norm-one = same_sum R _ _ _ _ (R.laws.mul_one R.one) (mul_zero R R.zero) ∙ R.laws.add_zero R.one

  -- the norm of an inverse is an inverse of the norm
  pub norm-inverse : (x y : GaussianElement R) → gaussian_mul R x y ≡ (R.one, R.zero)
      → R.mul (gaussian_norm R x) (gaussian_norm R y) ≡ R.one
  norm-inverse x y e = sym (norm-mul x y) ∙ ap (gaussian_norm R) e ∙ norm-one

  -- the conjugate times an inverse of the norm is an inverse
  pub conjugate-inverse : (x : GaussianElement R) (t : R.Carrier)
      → R.mul (gaussian_norm R x) t ≡ R.one
      → gaussian_mul R x (R.mul x.0 t, R.mul (R.neg x.1) t) ≡ (R.one, R.zero)
  conjugate-inverse x t e =
      let G = gaussian_ring R in
      let bar = gaussian_conjugate R x in
      ap (gaussian_mul R x) (sym (mul-real bar t))
      ∙ sym (G.laws.mul_assoc x bar (t, R.zero))
      ∙ ap (λ c. gaussian_mul R c (t, R.zero)) (mul-conjugate x)
      ∙ mul-real (gaussian_norm R x, R.zero) t
      ∙ same_pair _ _ e
      (R.laws.mul_comm R.zero t ∙ mul_zero R t)

  -- if a scalar represents an inverse of a number, a scalar represents an inverse of its norm
  pub norm-has_inverse : {T : Type 0} (f : T → R.Carrier)
      → ((x y : T) → IsValue R f (R.add (f x) (f y)))
      → ((x y : T) → IsValue R f (R.mul (f x) (f y)))
      → (x : GaussianElement R)
      → HasInverse (gaussian_ring R) (gaussian_value f) x
      → HasInverse R f (gaussian_norm R x)
  norm-has_inverse f sums products x inverse =
      let y = inverse.0 in
      let left = products y.real y.real in
      let right = products y.imaginary y.imaginary in
      let whole = sums left.0 right.0 in
      let same : f whole.0 ≡ gaussian_norm R (gaussian_value f y) = whole.1
      ∙ same_sum R _ _ _ _ left.1 right.1 in (
        whole.0,
        ap (R.mul (gaussian_norm R x)) same
            ∙ norm-inverse x (gaussian_value f y) inverse.1,
      )
