use Rattle.examples_theorems.proofs.PlainBlocks.{block-solution}
use Rattle.examples_theorems.proofs.blocks.solution_blocks_law.Goals as goal

pub returns : goal.returns
returns g c = block-solution g.T.Ring.ring
