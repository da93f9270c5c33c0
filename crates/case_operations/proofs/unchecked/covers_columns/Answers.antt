use Rattle.std.proofs.Common.{refl}
use Rattle.case_operations.proofs.unchecked.covers_columns.Goals as goal

-- a copy has the entries of the matrix
pub returns-in-Ok-spmm_csc_prealloc : goal.returns-in-Ok-spmm_csc_prealloc
returns-in-Ok-spmm_csc_prealloc g c =
    λ _. (rw c.in-Ok.ensures at c.in-Ok-spmm_csc_prealloc.ensures.covered) refl
