use Rattle.std.proofs.Common.{rules}
use Rattle.mtxkit_texts.proofs.ExactSums.{exact-wide}
use Rattle.mtxkit_texts.proofs.whole.exact_sums.Goals as goal

pub returns-then-branch-clause-sums : goal.returns-then-branch-clause-sums
returns-then-branch-clause-sums c =
    exact-wide c.args.list.now c.in_ok-matrix.matrix c.in_ok-matrix.ensures.sound
    c.in_ok-matrix.ensures.sums (c.in_ok-sums_fit.ensures.0 (search rules))
