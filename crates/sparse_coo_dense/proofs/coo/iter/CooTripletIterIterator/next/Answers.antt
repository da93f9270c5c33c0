-- written by tools/answer-goals
use Rattle.std.proofs.lemmas.Grind.{common_steps}
use Rattle.std.proofs.Common.{rules, arith}
use Rattle.sparse_coo_dense.proofs.coo.iter.CooTripletIterIterator.next.Goals as goal

pub returns-in-Some-Some-Some-clause-steps : goal.returns-in-Some-Some-Some-clause-steps
returns-in-Some-Some-Some-clause-steps g c = search rules

pub returns-in_default-clause-steps : goal.returns-in_default-clause-steps
returns-in_default-clause-steps g c = grind (arith, common_steps)
