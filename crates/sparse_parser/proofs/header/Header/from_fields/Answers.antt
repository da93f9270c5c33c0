use Rattle.sparse_parser.specs.Header.{fields_of}
use Rattle.std.proofs.Common.{rules}
use Rattle.sparse_parser.proofs.header.Header.from_fields.Goals as goal

pub returns-then-is_some : goal.returns-then-is_some
unfolding fields_of
returns-then-is_some c = search rules

pub returns : goal.returns
unfolding fields_of
returns c = search rules
