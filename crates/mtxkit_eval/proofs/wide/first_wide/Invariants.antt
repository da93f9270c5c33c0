use Rattle.sparse_compressed.specs.Compressed.{lane_triplets}
use Rattle.mtxkit_eval.proofs.FirstWide.{IsNarrowBefore}
use Rattle.mtxkit_eval.proofs.wide.first_wide.Given as goal

abbrev pub invariant-loop-row : goal.invariant-loop-row
invariant-loop-row l = IsNarrowBefore (lane_triplets l.matrix) l.row-iterator
