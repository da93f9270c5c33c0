-- written by tools/answer-goals
use Rattle.std.proofs.lemmas.Grind.{common_steps}
use Rattle.std.proofs.Common.{arith}
use Rattle.sparse_parser.proofs.lines.split_prefix.Goals as goal

pub loop-at-preserved : goal.loop-at-preserved
loop-at-preserved g c = grind (arith, common_steps)

pub returns-clause-after : goal.returns-clause-after
returns-clause-after g c = grind (arith, common_steps)

pub returns-clause-leading : goal.returns-clause-leading
returns-clause-leading g c = grind (arith, common_steps)
