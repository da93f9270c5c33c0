use Rattle.sparse_compressed.specs.Compressed.{lane_triplets}
use Rattle.mtxkit_matrices.specs.InnerNonzeros.{IsZeroBefore}
use Rattle.mtxkit_matrices.proofs.values.first_nonzero.Given as goal

abbrev pub invariant-loop-row : goal.invariant-loop-row
invariant-loop-row g l =
    IsZeroBefore g.T.Ring.ring g.T.Ring.value (lane_triplets l.matrix) l.row-iterator
