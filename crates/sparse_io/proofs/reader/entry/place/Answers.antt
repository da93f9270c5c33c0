use Rattle.sparse_parser.specs.Meaning.{place_of}
use Rattle.std.proofs.Common.{rules}
use Rattle.sparse_io.proofs.reader.entry.place.Goals as goal

pub returns : goal.returns
unfolding place_of
returns c = search rules
