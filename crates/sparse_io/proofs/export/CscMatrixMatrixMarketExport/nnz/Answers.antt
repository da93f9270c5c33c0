use Rattle.std.proofs.Common.{sym, ◌∙◌}
use Rattle.std.proofs.lemmas.List.{length-map}
use Rattle.sparse_compressed.specs.Compressed.{transposed}
use Rattle.sparse_compressed.proofs.TripletBounds.{length-lane_triplets}
use Rattle.sparse_io.proofs.export.CscMatrixMatrixMarketExport.nnz.Goals as goal

pub returns : goal.returns
returns g c = c.nnz.ensures.count ∙ sym (length-lane_triplets _ c.nnz.ensures.sound)
    ∙ sym (length-map _ transposed)
