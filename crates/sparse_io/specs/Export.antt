-- The triplets that an export iterator has left.
use Rattle.std.specs.Prelude.{ℕ, List}
use Rattle.sparse_io.specs.declared.export.ExportIter.{ExportIter}
use Rattle.sparse_io.specs.declared.export.ExportIter.TheVariants.{Coo, Csr, Csc}

-- the triplets left, in the order of the matrix's format
abbrev pub triplets_left : {T : Type 0} → ExportIter T → List (ℕ × ℕ × T)
triplets_left (Coo triplets) = triplets
triplets_left (Csr triplets) = triplets
triplets_left (Csc triplets) = triplets
