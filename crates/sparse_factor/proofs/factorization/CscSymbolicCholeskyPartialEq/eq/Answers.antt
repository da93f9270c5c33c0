use borrow.Author.Tests.{tests}
use Rattle.std.proofs.Common.{rules}
use Rattle.sparse_factor.proofs.factorization.CscSymbolicCholeskyPartialEq.eq.Goals as goal

pub returns-then-eq : goal.returns-then-eq
returns-then-eq c = search (tests, rules)
