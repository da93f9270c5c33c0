use Rattle.std.specs.Int.{w128}
use Rattle.sparse_algebra.proofs.WholeNumbers.{number_of-class}
use Rattle.sparse_algebra.specs.WrappingValues.{w128_number}
use Rattle.sparse_algebra.proofs.laws.wide.wide_read_back_law.Goals as goal

pub returns : goal.returns
returns c = λ x. number_of-class w128 (w128_number x) x.in_range
