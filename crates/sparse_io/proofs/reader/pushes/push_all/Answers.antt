-- written by tools/answer-goals
use Rattle.std.proofs.Common.{arith}
use Rattle.std.proofs.lemmas.Grind.{common_steps}
use Rattle.sparse_io.proofs.reader.pushes.push_all.Goals as goal

pub returns-in-Some-clause-added : goal.returns-in-Some-clause-added
returns-in-Some-clause-added g c = grind (arith, common_steps)

pub returns-in-None-clause-added : goal.returns-in-None-clause-added
returns-in-None-clause-added g c = grind (arith, common_steps)
