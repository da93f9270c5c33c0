-- written by tools/answer-goals
use Rattle.std.proofs.Common.{rules}
use Rattle.sparse_coo_dense.proofs.dense.DMatrix.get.Goals as goal

pub index-requires : goal.index-requires
index-requires g c = search rules

pub returns-clause-value : goal.returns-clause-value
returns-clause-value g c = search rules
