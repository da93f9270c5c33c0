use Rattle.nalgebra_sparse.specs.Compressed.{lane_triplets}
use Rattle.examples_theorems.specs.InnerRowBlocks.{IsBlockWithout}
use Rattle.examples_theorems.proofs.blocks.rows_from.Given as goal

abbrev pub invariant-loop-row : goal.invariant-loop-row
invariant-loop-row g l = IsBlockWithout l.start l.count l.a.pattern.minor_dim (lane_triplets l.a)
    l.row-iterator l.block
