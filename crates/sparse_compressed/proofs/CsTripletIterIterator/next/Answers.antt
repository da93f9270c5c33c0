-- written by tools/answer-goals
use Rattle.std.proofs.Common.{rules}
use Rattle.sparse_compressed.proofs.CsTripletIterIterator.next.Goals as goal

pub returns-in-Some-split_first-clause-steps : goal.returns-in-Some-split_first-clause-steps
returns-in-Some-split_first-clause-steps g c = search rules
