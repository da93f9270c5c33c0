use Rattle.examples_theorems.proofs.PlainBlocks.{stacked_again}
use Rattle.examples_theorems.proofs.blocks.stacked_law.Goals as goal

pub returns : goal.returns
returns g c = stacked_again g.T.Ring.ring
