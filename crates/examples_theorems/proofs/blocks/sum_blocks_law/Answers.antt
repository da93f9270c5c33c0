use Rattle.examples_theorems.proofs.PlainBlocks.{block-sum}
use Rattle.examples_theorems.proofs.blocks.sum_blocks_law.Goals as goal

pub returns : goal.returns
returns g c = block-sum g.T.Ring.ring
