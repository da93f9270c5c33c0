-- written by tools/answer-goals
use Rattle.std.proofs.lemmas.Grind.{common_steps}
use Rattle.std.proofs.Common.{arith}
use Rattle.mtxkit_matrices.proofs.pictures.text.push_blocks.Goals as goal

pub returns : goal.returns
returns c = grind (arith, common_steps)
