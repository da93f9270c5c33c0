-- written by tools/answer-goals
use Rattle.std.proofs.lemmas.Grind.{common_steps}
use Rattle.std.proofs.Common.{arith}
use Rattle.sparse_expr.proofs.evaluate.value.Goals as goal

pub evaluate-requires : goal.evaluate-requires
evaluate-requires g c = grind (arith, common_steps)
