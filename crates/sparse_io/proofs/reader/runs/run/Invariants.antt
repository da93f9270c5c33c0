use Rattle.std.proofs.Common.{◌≤◌, ◌-◌, true, length, drop}
use Rattle.sparse_io.specs.InnerPlaces.{places_left}
use Rattle.sparse_parser.specs.Meaning.{values_of}
use Rattle.sparse_io.specs.InnerEntries.{IsReadOn, reading}
use Rattle.sparse_io.proofs.reader.runs.run.Given as goal

abbrev pub invariant-lines : goal.invariant-lines
invariant-lines g l = record {
  inside : l.at ≤ length l.text;
  on : IsReadOn g.T.MatrixMarketScalar.scalar l.header
      (reading l.initial.read true (places_left l.initial.left)
      (values_of g.T.MatrixMarketScalar.value l.initial.list.matrix) l.text)
      (reading l.read true (places_left l.left)
      (values_of g.T.MatrixMarketScalar.value l.list.matrix) (drop l.at l.text));
}

abbrev pub decreases-lines : goal.decreases-lines
decreases-lines g l = length l.text - l.at
