use Rattle.std.proofs.Common.{◌≡◌, string_bytes}
use Rattle.sparse_io.specs.Export.{triplets_left}
use Rattle.sparse_io.proofs.Buffering.{IsWriting}
use Rattle.sparse_io.proofs.writer.save_to_matrix_market_with.Given as goal

abbrev pub invariant-loop-row : goal.invariant-loop-row
invariant-loop-row g l = record {
  unfailed : g.W.Sink.failures l.sink ≡ g.W.Sink.failures l.initial.sink;
  writing : IsWriting l.fn.banner g.T.MatrixMarketScalar.scalar.name
      (λ x. g.T.MatrixMarketScalar.scalar.text (g.T.MatrixMarketScalar.value x))
      (g.S.MatrixMarketExport.exported l.matrix) (g.W.Sink.accepted l.initial.sink)
      (g.W.Sink.accepted l.sink) (string_bytes l.text) (triplets_left l.row-iterator);
}
