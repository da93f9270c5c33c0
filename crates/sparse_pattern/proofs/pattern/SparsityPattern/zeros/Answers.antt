-- written by tools/answer-goals
use Rattle.std.proofs.Common.{arith, rules}
use Rattle.std.proofs.lemmas.Grind.{common_steps}
use Rattle.sparse_pattern.proofs.pattern.SparsityPattern.zeros.Goals as goal

pub invariant_of-result : goal.invariant_of-result
invariant_of-result c = grind (arith, common_steps)

pub returns-clause-is : goal.returns-clause-is
returns-clause-is c = search rules

pub returns-clause-valid : goal.returns-clause-valid
returns-clause-valid c = grind (arith, common_steps)
