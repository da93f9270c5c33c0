use Rattle.sparse_parser.specs.InnerReading.{settled_of, count_of}
use Rattle.std.proofs.Common.{rules}
use Rattle.sparse_io.proofs.reader.settled.Goals as goal

pub returns-in-None-default : goal.returns-in-None-default
unfolding settled_of count_of
returns-in-None-default c = search rules
