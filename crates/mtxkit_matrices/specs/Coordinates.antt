-- The dimensions of lists of triplets.
use Rattle.sparse_coo_dense.specs.Coo.{Coo}
use Rattle.mtxkit_matrices.specs.declared.coordinates.Dimensions.{Dimensions}

-- the numbers of rows and columns
abbrev pub dimensions_of : {T : Type 0} → Coo T → Dimensions
dimensions_of list = record { rows = list.nrows; cols = list.ncols }
