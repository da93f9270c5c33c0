use Rattle.sparse_algebra.proofs.WholeNumbers.{wrapped-number_of}
use Rattle.sparse_algebra.proofs.laws.whole.read_back_law.Goals as goal

pub returns-clause-element : goal.returns-clause-element
returns-clause-element c = wrapped-number_of
