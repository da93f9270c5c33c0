-- written by tools/answer-goals
use Rattle.std.proofs.Common.{rules}
use Rattle.sparse_factor.proofs.factorization.CscSymbolicCholesky.l_pattern.Goals as goal

pub returns : goal.returns
returns c = search rules
