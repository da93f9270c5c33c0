use Rattle.std.proofs.Common.{sym, ◌∙◌}
use Rattle.sparse_compressed.proofs.TripletBounds.{length-lane_triplets}
use Rattle.sparse_io.proofs.export.CsrMatrixMatrixMarketExport.nnz.Goals as goal

pub returns : goal.returns
returns g c = c.nnz.ensures.count ∙ sym (length-lane_triplets _ c.nnz.ensures.sound)
