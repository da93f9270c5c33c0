use Rattle.sparse_parser.specs.Meaning.{integer_of}
use Rattle.std.proofs.Common.{rules}
use Rattle.sparse_parser.proofs.data_lines.Number.integer.Goals as goal

pub returns-in-Other-default : goal.returns-in-Other-default
unfolding integer_of
returns-in-Other-default c = search rules
