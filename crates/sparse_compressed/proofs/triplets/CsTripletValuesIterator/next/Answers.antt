-- written by tools/answer-goals
use Rattle.std.proofs.Common.{rules}
use Rattle.sparse_compressed.proofs.triplets.CsTripletValuesIterator.next.Goals as goal

pub returns-in_err-lane-clause-steps : goal.returns-in_err-lane-clause-steps
returns-in_err-lane-clause-steps g c = search rules

pub returns-clause-steps : goal.returns-clause-steps
returns-clause-steps g c = search rules
