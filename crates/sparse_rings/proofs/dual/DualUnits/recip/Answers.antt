use Rattle.std.proofs.Common.{◌≡◌, ap, ◌∙◌, refl}
use Rattle.sparse_rings.specs.DualRing.{dual_mul}
use Rattle.sparse_rings.specs.InnerPairs.{same_pair}
use Rattle.sparse_rings.specs.RingValues.{dual_value}
use Rattle.sparse_rings.proofs.Inverses.{dual_inverse}
use Rattle.sparse_rings.proofs.dual.DualUnits.recip.Goals as goal

pub returns-clause-inverse : goal.returns-clause-inverse
returns-clause-inverse g c =
    let R = g.T.Ring.ring in
    let f = g.T.Ring.value in
    let x = c.args.self in
    let t = f c.in_ok-inverse.inverse in
    let derivative : f c.new.result.derivative ≡ R.neg (R.mul (f x.derivative) (R.mul t t)) =
    ap f c.new.ensures.derivative ∙ c.neg.ensures
    ∙ ap R.neg (c.mul.ensures ∙ ap (R.mul (f x.derivative)) c.mul-square.ensures) in
    ap (dual_mul R (dual_value f x)) (same_pair _ _ (ap f c.new.ensures.number) derivative)
    ∙ dual_inverse R (f x.number) (f x.derivative) t c.in_ok-inverse.ensures.inverse

pub returns-clause-exact : goal.returns-clause-exact
returns-clause-exact g c = (λ _. (c.new.result, returns-clause-inverse g c), λ _. refl)
