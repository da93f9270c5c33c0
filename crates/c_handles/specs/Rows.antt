-- The types of the values behind handles, as the logic describes them.
use denote.RattleType.{RattleType}
use Rattle.sparse_algebra.specs.contracts.scalar.wrapping.W64.{the_row as w64_row}
use Rattle.sparse_csr_csc.specs.contracts.csr.CsrMatrix.{the_row as csr_row}
use Rattle.c_handles.specs.contracts.held_factors.HeldFactors.{the_row as held_factors_row}
use Rattle.c_handles.specs.contracts.ring_matrix.RingMatrix.{the_row as ring_matrix_row}
use Rattle.c_handles.specs.contracts.shared.Shared.{the_row as shared_row}

abbrev pub matrix_row : RattleType
matrix_row = shared_row (csr_row w64_row)

abbrev pub factors_row : RattleType
factors_row = shared_row held_factors_row

abbrev pub ring_row : RattleType
ring_row = shared_row ring_matrix_row
