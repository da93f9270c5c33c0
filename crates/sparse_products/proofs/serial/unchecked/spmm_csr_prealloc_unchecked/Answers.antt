-- written by tools/answer-goals
use Rattle.std.proofs.Common.{rules}
use Rattle.sparse_products.proofs.serial.unchecked.spmm_csr_prealloc_unchecked.Goals as goal

pub returns-clause-updated : goal.returns-clause-updated
returns-clause-updated g c = search rules
