-- The arrays of the data struct of a CSC matrix, unchecked.
use Rattle.sparse_compressed.specs.Compressed.{Compressed, arrays_of}
use Rattle.sparse_serde.specs.declared.csc.CscData.{CscData}

module _ {T : Type 0} where
  -- the arrays as a compressed matrix whose lanes are columns
  abbrev pub csc_in : CscData T → Compressed T
  csc_in d = arrays_of d.ncols d.nrows d.col_offsets.items d.row_indices.items d.values.items
