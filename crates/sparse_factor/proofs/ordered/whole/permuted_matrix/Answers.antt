use Rattle.std.proofs.Common.{ap}
use Rattle.sparse_factor.proofs.ordered.whole.permuted_matrix.Goals as goal

pub returns-in-Ok-clause-rows : goal.returns-in-Ok-clause-rows
returns-in-Ok-clause-rows g c = ap (λ m. m.rows) c.in-Ok.ensures.plain

pub returns-in-Ok-clause-columns : goal.returns-in-Ok-clause-columns
returns-in-Ok-clause-columns g c = ap (λ m. m.cols) c.in-Ok.ensures.plain
