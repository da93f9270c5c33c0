use Rattle.sparse_compressed.proofs.TripletBounds.{lane_triplets-inside}
use Rattle.sparse_io.proofs.Transposed.{transposed-inside}
use Rattle.sparse_io.proofs.export.CscMatrixMatrixMarketExport.triplet_iter.Goals as goal

pub returns-clause-inside : goal.returns-clause-inside
returns-clause-inside g c = transposed-inside _ _ _
    (lane_triplets-inside _ c.triplet_iter.ensures.sound)
