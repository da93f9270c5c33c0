-- written by tools/answer-goals
use Rattle.std.proofs.Common.{rules}
use Rattle.sparse_algebra.proofs.operand.OpFrom.from.Goals as goal

pub returns : goal.returns
returns g c = search rules
