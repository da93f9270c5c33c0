use Rattle.sparse_parser.specs.ArrayPlaces.{array_count}
use Rattle.sparse_parser.specs.Meaning.{within_usize}
use Rattle.std.proofs.Common.{rules}
use Rattle.sparse_parser.proofs.size.array_count.Goals as goal

pub returns : goal.returns
unfolding array_count within_usize
returns c = search rules
