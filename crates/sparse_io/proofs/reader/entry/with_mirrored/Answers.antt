use Rattle.sparse_parser.specs.Meaning.{mirrored}
use Rattle.std.proofs.Common.{rules}
use Rattle.sparse_io.proofs.reader.entry.with_mirrored.Goals as goal

pub returns-in_ok-negative-in-SkewSymmetric-2 : goal.returns-in_ok-negative-in-SkewSymmetric-2
unfolding mirrored
returns-in_ok-negative-in-SkewSymmetric-2 g c = search rules

pub returns-in_default-symmetry : goal.returns-in_default-symmetry
unfolding mirrored
returns-in_default-symmetry g c = search rules

pub returns-in-General : goal.returns-in-General
unfolding mirrored
returns-in-General g c = search rules

pub returns-then-row-col : goal.returns-then-row-col
unfolding mirrored
returns-then-row-col g c = search rules

pub returns-in-SkewSymmetric : goal.returns-in-SkewSymmetric
unfolding mirrored
returns-in-SkewSymmetric g c = search rules

pub returns-in_default-2 : goal.returns-in_default-2
unfolding mirrored
returns-in_default-2 g c = search rules
