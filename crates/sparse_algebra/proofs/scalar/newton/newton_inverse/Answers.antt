use Rattle.std.proofs.Common.{◌≡◌, ◌≤◌, ap, sym, ◌∙◌, arith}
use Rattle.std.proofs.Math.Numerals.{add-one}
use Rattle.sparse_algebra.specs.InnerNewton.{one_minus}
use Rattle.sparse_algebra.proofs.NewtonSteps.{newton_step, squared-zero}
use Rattle.sparse_algebra.proofs.scalar.newton.newton_inverse.Goals as goal

pub loop-step-init : goal.loop-step-init
loop-step-init g c =
    let T = g.T.Ring in
    let R = T.ring in
    let x = T.value c.args.x in
    let residual_is = c.add-residual.ensures ∙ ap (λ z. R.add z (T.value c.neg.result)) c.one.ensures
    ∙ ap (R.add R.one) c.neg.ensures in
    record {
      steps = residual_is;
      rest = ap (one_minus R) (ap (R.mul x) c.one-inverse.ensures ∙ R.laws.mul_one x)
          ∙ sym residual_is;
    }

pub loop-step-preserved : goal.loop-step-preserved
loop-step-preserved g c =
    let T = g.T.Ring in
    let R = T.ring in
    let x = T.value c.args.x in
    let y = T.value c.loop-step.inverse in
    let m = T.value c.loop-step.residual in
    let rest = c.loop-step.invariant.rest in
    let next_is = c.mul-inverse.ensures ∙ ap (R.mul y)
    (c.add.ensures ∙ ap (λ z. R.add z m) c.one-in-loop-step.ensures
    ∙ ap (R.add R.one) (sym rest)) in
    record {
      steps = rw add-one (c.mul-residual.ensures ∙ ap (λ z. R.mul z z) c.loop-step.invariant.steps);
      rest = ap (λ z. one_minus R (R.mul x z)) next_is ∙ newton_step R x y
          ∙ ap (λ z. R.mul z z) rest ∙ sym c.mul-residual.ensures;
    }

pub returns-then-eq : goal.returns-then-eq
returns-then-eq g c =
    let T = g.T.Ring in
    let R = T.ring in
    let x = T.value c.args.x in
    let k = c.loop-step._step in
    let same = (g.met.T.Ring.eq_law c.loop-step.residual c.zero.result).0
    (sym c.eq.ensures ∙ c.if-eq.true) in
    let none : T.value c.loop-step.residual ≡ R.zero = same ∙ ap T.value c.zero.ensures
    ∙ g.met.T.Ring.zero_law in
    let le : k ≤ c.args.steps = omega arith in
    c.loop-step.invariant.rest ∙ none ∙ sym (squared-zero R k c.args.steps (one_minus R x) le
    (sym c.loop-step.invariant.steps ∙ none))
