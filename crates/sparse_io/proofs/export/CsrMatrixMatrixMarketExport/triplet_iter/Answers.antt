use Rattle.sparse_compressed.proofs.TripletBounds.{lane_triplets-inside}
use Rattle.sparse_io.proofs.export.CsrMatrixMatrixMarketExport.triplet_iter.Goals as goal

pub returns-clause-inside : goal.returns-clause-inside
returns-clause-inside g c = lane_triplets-inside _ c.triplet_iter.ensures.sound
