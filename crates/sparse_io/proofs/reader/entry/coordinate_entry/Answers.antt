use Rattle.sparse_parser.specs.Meaning.{entry_of, field_value}
use Rattle.std.proofs.Common.{rules}
use Rattle.sparse_io.proofs.reader.entry.coordinate_entry.Goals as goal

pub returns-in-Pattern-Two : goal.returns-in-Pattern-Two
unfolding entry_of field_value
returns-in-Pattern-Two g c = search rules

pub returns-in-Integer-Three : goal.returns-in-Integer-Three
unfolding entry_of field_value
returns-in-Integer-Three g c = search rules

pub returns-in-Real-Three : goal.returns-in-Real-Three
unfolding entry_of field_value
returns-in-Real-Three g c = search rules

pub returns-in-Complex-Four : goal.returns-in-Complex-Four
unfolding entry_of field_value
returns-in-Complex-Four g c = search rules
