use Rattle.examples_theorems.proofs.PlainBlocks.{block-product, product-block}
use Rattle.examples_theorems.proofs.blocks.product_blocks_law.Goals as goal

pub returns-clause-rows : goal.returns-clause-rows
returns-clause-rows g c = block-product g.T.Ring.ring

pub returns-clause-cols : goal.returns-clause-cols
returns-clause-cols g c = product-block g.T.Ring.ring
