-- written by tools/answer-goals
use Rattle.std.proofs.Common.{rules}
use Rattle.sparse_dense_ops.proofs.division.csr.div_scalar_csr.Goals as goal

pub returns-clause-quotient : goal.returns-clause-quotient
returns-clause-quotient g c = search rules
