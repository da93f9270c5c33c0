use Rattle.std.proofs.Common.{◌≡◌, ap, ◌∙◌, refl}
use Rattle.sparse_rings.specs.InnerPairs.{same_pair}
use Rattle.sparse_rings.proofs.pair.PairUnits.recip.Goals as goal

pub returns-clause-exact : goal.returns-clause-exact
returns-clause-exact g c =
    let R = g.A.Ring.ring in
    let S = g.B.Ring.ring in
    let x = c.args.self in
    let first : R.mul (g.A.Ring.value x.first) (g.A.Ring.value c.new.result.first) ≡ R.one =
    ap (λ y. R.mul (g.A.Ring.value x.first) (g.A.Ring.value y)) c.new.ensures.first
    ∙ c.in_ok-first.ensures.inverse in
    let second : S.mul (g.B.Ring.value x.second) (g.B.Ring.value c.new.result.second) ≡ S.one =
    ap (λ y. S.mul (g.B.Ring.value x.second) (g.B.Ring.value y)) c.new.ensures.second
    ∙ c.in_ok-second.ensures.inverse in
    (λ _. (c.new.result, same_pair _ _ first second), λ _. refl)
