-- written by tools/answer-goals
use Rattle.std.proofs.Common.{rules}
use Rattle.sparse_factor.proofs.factorization.CscSymbolicCholesky.factor.Goals as goal

pub returns-clause-input : goal.returns-clause-input
returns-clause-input c = search rules

pub returns-clause-fill : goal.returns-clause-fill
returns-clause-fill c = search rules

pub returns-clause-fill_paths : goal.returns-clause-fill_paths
returns-clause-fill_paths c = search rules

pub returns-clause-diagonal : goal.returns-clause-diagonal
returns-clause-diagonal c = search rules
