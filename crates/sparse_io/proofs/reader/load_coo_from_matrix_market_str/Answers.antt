use Rattle.sparse_io.proofs.Parts.{means_ok, means_refused}
use Rattle.sparse_io.proofs.reader.load_coo_from_matrix_market_str.Goals as goal

pub returns-clause-ok : goal.returns-clause-ok
returns-clause-ok g c = means_ok g.T.MatrixMarketScalar.scalar g.T.MatrixMarketScalar.value
    c.args.text.now _ (rw c.as_bytes.ensures.value at c.document.ensures)

pub returns-clause-refused : goal.returns-clause-refused
returns-clause-refused g c = means_refused g.T.MatrixMarketScalar.scalar
    g.T.MatrixMarketScalar.value c.args.text.now _
    (rw c.as_bytes.ensures.value at c.document.ensures)
