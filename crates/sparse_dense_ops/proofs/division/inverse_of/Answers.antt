-- written by tools/answer-goals
use Rattle.std.proofs.Common.{rules}
use Rattle.sparse_dense_ops.proofs.division.inverse_of.Goals as goal

pub returns-in-None-clause-inverse : goal.returns-in-None-clause-inverse
returns-in-None-clause-inverse g c = search rules

pub returns-in-None-clause-singular : goal.returns-in-None-clause-singular
returns-in-None-clause-singular g c = search rules
