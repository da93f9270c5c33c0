use Rattle.std.specs.Prelude.{string_bytes}
use Rattle.sparse_io.specs.Export.{triplets_left}
use Rattle.sparse_io.proofs.Buffering.{IsBegun}
use Rattle.sparse_io.proofs.writer.save_to_matrix_market_str_with.Given as goal

abbrev pub invariant-loop-row : goal.invariant-loop-row
invariant-loop-row g l =
    IsBegun l.fn.banner g.T.MatrixMarketScalar.scalar.name
    (λ x. g.T.MatrixMarketScalar.scalar.text (g.T.MatrixMarketScalar.value x))
    (g.S.MatrixMarketExport.exported l.matrix) (string_bytes l.text)
    (triplets_left l.row-iterator)
