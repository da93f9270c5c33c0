use Rattle.sparse_parser.specs.Meaning.{entry_of, field_value}
use Rattle.std.proofs.Common.{rules}
use Rattle.sparse_io.proofs.reader.entry.array_entry.Goals as goal

pub returns-in-Real-One : goal.returns-in-Real-One
unfolding entry_of field_value
returns-in-Real-One g c = search rules
