use Rattle.std.proofs.Common.{ℕ, subst}
use Rattle.examples_theorems.specs.Walking.{IsDiagonal}
use Rattle.examples_theorems.proofs.WalkSteps.{diagonal-walks}
use Rattle.examples_theorems.proofs.reach.reach.Goals as goal

pub returns-clause-walks : goal.returns-clause-walks
returns-clause-walks c =
    let p = c.args.pattern.now in
    let d = c.in_ok-start.start in
    let P : ℕ → Type 0 = λ n. IsDiagonal d n in
    let is : IsDiagonal d p.major_dim = subst P c.major_dim.ensures c.in_ok-start.ensures.diagonal in
    c.in_ok-reached.ensures.steps p d is c.in_ok-step.ensures.entries (diagonal-walks p d is)
