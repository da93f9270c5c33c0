use Rattle.std.proofs.Common.{ℕ, subst}
use Rattle.examples_theorems.specs.Walking.{HoldsWalks}
use Rattle.examples_theorems.proofs.ShortWalks.{walks_of_any_length}
use Rattle.examples_theorems.proofs.reach.closure.Goals as goal

pub returns-clause-walks : goal.returns-clause-walks
returns-clause-walks c =
    let p = c.args.pattern.now in
    let r = c.in_ok-reached.reached in
    let P : ℕ → Type 0 = λ n. HoldsWalks p n r in
    walks_of_any_length p r (subst P c.major_dim.ensures c.in_ok-reached.ensures.walks)
