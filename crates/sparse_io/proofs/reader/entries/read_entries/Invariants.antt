use Rattle.std.proofs.Common.{length}
use Rattle.sparse_parser.specs.Meaning.{values_of}
use Rattle.sparse_io.specs.InnerPlaces.{places_left}
use Rattle.sparse_io.specs.InnerEntries.{IsReadOn, reading}
use Rattle.sparse_io.proofs.LineRuns.{start}
use Rattle.sparse_io.proofs.reader.entries.read_entries.Given as goal

abbrev pub invariant-loop-rest : goal.invariant-loop-rest
invariant-loop-rest g l = IsReadOn g.T.MatrixMarketScalar.scalar l.header
    (start g.T.MatrixMarketScalar.scalar l.header (l.size.rows, l.size.cols, l.size.count) l.text)
    (reading l.read l.bounds.inside (places_left l.places)
    (values_of g.T.MatrixMarketScalar.value l.matrix) l.rest)

abbrev pub decreases-loop-rest : goal.decreases-loop-rest
decreases-loop-rest g l = length l.rest
