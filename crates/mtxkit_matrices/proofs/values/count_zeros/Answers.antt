-- written by tools/answer-goals
use Rattle.std.proofs.lemmas.Grind.{common_steps}
use Rattle.std.proofs.Common.{arith}
use Rattle.mtxkit_matrices.proofs.values.count_zeros.Goals as goal

pub loop-value-preserved : goal.loop-value-preserved
loop-value-preserved g c = grind (arith, common_steps)

pub overflow_add-count : goal.overflow_add-count
overflow_add-count g c = grind (arith, common_steps)

pub returns : goal.returns
returns g c = grind (arith, common_steps)
