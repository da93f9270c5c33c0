-- written by tools/answer-goals
use Rattle.std.proofs.Common.{rules}
use Rattle.sparse_expr.proofs.evaluate.evaluate_rows.Goals as goal

pub returns : goal.returns
returns g c = search rules
