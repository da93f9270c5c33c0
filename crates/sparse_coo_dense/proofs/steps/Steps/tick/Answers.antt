-- written by tools/answer-goals
use Rattle.std.proofs.Common.{rules}
use Rattle.sparse_coo_dense.proofs.steps.Steps.tick.Goals as goal

pub returns : goal.returns
returns c = search rules
