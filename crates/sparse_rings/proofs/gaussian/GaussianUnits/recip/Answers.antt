use Rattle.std.proofs.Common.{◌≡◌, sym, ap, ◌∙◌, refl, subst}
use Rattle.std.proofs.lemmas.Bool.{false≢true}
use Rattle.sparse_algebra.specs.Inverses.{HasInverse}
use Rattle.sparse_rings.specs.GaussianRing.{gaussian_mul}
use Rattle.sparse_rings.specs.InnerPairs.{same_pair}
use Rattle.sparse_rings.specs.RingValues.{gaussian_value}
use Rattle.sparse_rings.proofs.Norms.{conjugate-inverse, norm-has_inverse}
use Rattle.sparse_rings.proofs.gaussian.GaussianUnits.recip.Goals as goal

pub returns-in_err-inverse-clause-exact : goal.returns-in_err-inverse-clause-exact
returns-in_err-inverse-clause-exact g c =
    let R = g.T.Ring.ring in
    let f = g.T.Ring.value in
    let x = gaussian_value f c.args.self in
    let laws = g.met.T.Closed in
    let P : R.Carrier → Type 0 = λ n. HasInverse R f n in
    rw c.from_residual.ensures (
      λ some. absurd (false≢true some),
      λ inverse. c.in_err-inverse.ensures.exact.1
          (subst P (sym c.norm.ensures)
          (norm-has_inverse R f laws.sum_law laws.product_law x inverse)),
    )

pub returns-clause-inverse : goal.returns-clause-inverse
returns-clause-inverse g c =
    let R = g.T.Ring.ring in
    let f = g.T.Ring.value in
    let x = gaussian_value f c.args.self in
    let t = f c.in_ok-inverse.inverse in
    let unit : R.mul (f c.norm.result) t ≡ R.one = c.in_ok-inverse.ensures.inverse in
    let real : f c.new.result.real ≡ R.mul x.0 t = ap f c.new.ensures.real ∙ c.mul.ensures
    ∙ ap (λ y. R.mul (f y) t) c.conjugate-conjugate.ensures.real in
    let imaginary : f c.new.result.imaginary ≡ R.mul (R.neg x.1) t =
    ap f c.new.ensures.imaginary ∙ c.mul-2.ensures
    ∙ ap (λ y. R.mul y t) c.conjugate-conjugate.ensures.imaginary in
    ap (gaussian_mul R x) (same_pair _ _ real imaginary)
    ∙ conjugate-inverse R x t (ap (λ n. R.mul n t) (sym c.norm.ensures) ∙ unit)

pub returns-clause-exact : goal.returns-clause-exact
returns-clause-exact g c = (λ _. (c.new.result, returns-clause-inverse g c), λ _. refl)
