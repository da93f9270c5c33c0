use Rattle.std.proofs.Common.{◌≡◌, ℕ, ◌+◌, suc, ◌∙◌, subst, arith}
use Rattle.examples_theorems.specs.Walking.{TakesSteps}
use Rattle.examples_theorems.proofs.WalkSteps.{more-steps}
use Rattle.examples_theorems.proofs.reach.take_steps.Goals as goal

pub loop-length-preserved : goal.loop-length-preserved
loop-length-preserved c =
    let old = c.loop-length.invariant in
    let found = c.in_ok-reached.ensures in
    let next = c.in_ok-reached.reached in
    let k = c.loop-length.length in
    let b = c.args.step.now in
    let P : ℕ → Type 0 = λ n. TakesSteps b c.args.start n next in
    let one_more : suc k ≡ k + 1 = omega arith in
    record {
      major = omega (arith, found.major, c.requires.lanes);
      minor = found.minor ∙ old.minor;
      steps = subst P one_more
          (more-steps b c.args.start c.loop-length.reached next k old.steps found.entries);
    }

pub returns-clause-steps : goal.returns-clause-steps
returns-clause-steps c =
    let P : ℕ → Type 0 = λ n. TakesSteps c.args.step.now c.args.start n c.loop-length.reached in
    let last : c.loop-length.length ≡ c.args.steps =
    omega (arith, c.loop-length-test.false, c.loop-length.auto.length-end) in
    subst P last c.loop-length.invariant.steps
