use Rattle.sparse_algebra.proofs.WholeNumbers.{wrapped-IsRingMap}
use Rattle.sparse_algebra.proofs.laws.whole.wrapping_law.Goals as goal

pub returns : goal.returns
returns c = wrapped-IsRingMap
