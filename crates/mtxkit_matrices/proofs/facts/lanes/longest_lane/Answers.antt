use Rattle.std.proofs.Common.{◌≡◌, ap, sym, subst, ◌∙◌, arith}
use Rattle.mtxkit_matrices.specs.Lanes.{longest_below}
use Rattle.mtxkit_matrices.proofs.LongestLanes.{IsReached, longest-bound, longest-reached}
use Rattle.mtxkit_matrices.proofs.facts.lanes.longest_lane.Goals as goal

all : (c : goal.After-loop-lane)
    → c.loop-lane.longest ≡ longest_below c.args.pattern.now c.args.pattern.now.major_dim
all c =
    let last : c.loop-lane.lane ≡ c.args.pattern.now.major_dim = omega arith in
    c.loop-lane.invariant.longest ∙ ap (longest_below c.args.pattern.now) last

pub returns-clause-bound : goal.returns-clause-bound
returns-clause-bound c = λ k lt.
    omega (arith, all c, longest-bound c.args.pattern.now c.args.pattern.now.major_dim k lt)

pub returns-clause-reached : goal.returns-clause-reached
returns-clause-reached c =
    subst (IsReached c.args.pattern.now c.args.pattern.now.major_dim) (sym (all c))
    (longest-reached c.args.pattern.now c.args.pattern.now.major_dim)
