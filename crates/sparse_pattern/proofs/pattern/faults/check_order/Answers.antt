use Rattle.std.proofs.Common.{rules}
use Rattle.sparse_pattern.proofs.pattern.faults.check_order.Goals as goal

pub returns-in-Greater-clause-ok : goal.returns-in-Greater-clause-ok
returns-in-Greater-clause-ok c = search

-- ---- written by tools/answer-goals

pub returns-in-Equal-clause-fault : goal.returns-in-Equal-clause-fault
returns-in-Equal-clause-fault c = search rules
