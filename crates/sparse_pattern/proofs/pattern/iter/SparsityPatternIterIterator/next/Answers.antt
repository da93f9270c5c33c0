use Rattle.std.proofs.lemmas.Grind.{common_steps}
use Rattle.std.proofs.Common.{arith, ◌∙◌, rules}
use Rattle.std.proofs.lemmas.Bool.Decides.{nat_tests}
use Rattle.sparse_pattern.proofs.NextEntry.{skip_lane}
use Rattle.sparse_pattern.proofs.pattern.iter.SparsityPatternIterIterator.next.Goals as goal

pub loop-left-preserved : goal.loop-left-preserved
loop-left-preserved c =
    skip_lane _ _ c.loop-left.left.now c.loop-left.lane (grind (arith, nat_tests)) (omega arith)
    ∙ c.loop-left.invariant

-- ---- written by tools/answer-goals

pub returns-in-Some-clause-steps : goal.returns-in-Some-clause-steps
returns-in-Some-clause-steps c = search rules

pub returns-in-None-clause-steps : goal.returns-in-None-clause-steps
returns-in-None-clause-steps c = grind (arith, common_steps)
