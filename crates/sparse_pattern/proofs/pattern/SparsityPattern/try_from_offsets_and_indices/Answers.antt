-- written by tools/answer-goals
use Rattle.std.proofs.Common.{rules}
use Rattle.sparse_pattern.proofs.pattern.SparsityPattern.try_from_offsets_and_indices.Goals as goal

pub returns-in_err-check-clause-fault : goal.returns-in_err-check-clause-fault
returns-in_err-check-clause-fault c = search rules

pub returns-in_err-check-clause-accepted : goal.returns-in_err-check-clause-accepted
returns-in_err-check-clause-accepted c = search rules

pub invariant_of-result : goal.invariant_of-result
invariant_of-result c = search rules

pub returns-clause-valid : goal.returns-clause-valid
returns-clause-valid c = search rules
