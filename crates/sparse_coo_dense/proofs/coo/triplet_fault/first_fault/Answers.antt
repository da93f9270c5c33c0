-- written by tools/answer-goals
use Rattle.std.proofs.Common.{rules}
use Rattle.sparse_coo_dense.proofs.coo.triplet_fault.first_fault.Goals as goal

pub returns-then-not-all_below-clause-fault : goal.returns-then-not-all_below-clause-fault
returns-then-not-all_below-clause-fault c = search rules

pub returns-then-not-all_below-2-clause-fault : goal.returns-then-not-all_below-2-clause-fault
returns-then-not-all_below-2-clause-fault c = search rules

pub returns-clause-bounds : goal.returns-clause-bounds
returns-clause-bounds c = search rules

pub returns-clause-counts : goal.returns-clause-counts
returns-clause-counts c = search rules
