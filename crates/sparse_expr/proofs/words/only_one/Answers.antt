-- written by tools/answer-goals
use Rattle.std.proofs.Common.{rules}
use Rattle.sparse_expr.proofs.words.only_one.Goals as goal

pub returns-in-Some-clause-one : goal.returns-in-Some-clause-one
returns-in-Some-clause-one c = search rules
