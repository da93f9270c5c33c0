-- written by tools/answer-goals
use Rattle.std.proofs.Common.{arith}
use Rattle.std.proofs.lemmas.Grind.{elements}
use Rattle.sparse_compressed.proofs.lane_iter_mut.CsLaneIterMutIterator.next.Goals as goal

pub returns-clause-goes : goal.returns-clause-goes
returns-clause-goes g c = grind (arith, elements)

pub returns-clause-steps : goal.returns-clause-steps
returns-clause-steps g c = grind (arith, elements)
