-- The arrays of the data struct of a CSR matrix, unchecked.
use Rattle.sparse_compressed.specs.Compressed.{Compressed, arrays_of}
use Rattle.sparse_serde.specs.declared.csr.CsrData.{CsrData}

module _ {T : Type 0} where
  -- the arrays as a compressed matrix whose lanes are rows
  abbrev pub csr_in : CsrData T → Compressed T
  csr_in d = arrays_of d.nrows d.ncols d.row_offsets.items d.col_indices.items d.values.items
