use Rattle.std.proofs.Common.{ap, inr}
use Rattle.sparse_parser.specs.Errors.{kind_of_cause}
use Rattle.sparse_io.proofs.LineRuns.{fault_is}
use Rattle.sparse_io.proofs.Parts.{read_no_header, read_header, Gives-along}
use Rattle.sparse_io.proofs.reader.document.Goals as goal

pub returns-in-None : goal.returns-in-None
returns-in-None g c =
    inr (fault_is (read_no_header g.T.MatrixMarketScalar.scalar c.args.text.now _ _ _
    c.after_space.ensures c.split_line.ensures.line c.split_line.ensures.rest c.in-None.ensures)
    (ap kind_of_cause c.new.ensures))

pub returns-in-Some : goal.returns-in-Some
returns-in-Some g c =
    let e = read_header g.T.MatrixMarketScalar.scalar c.args.text.now _ _ _ c.after_space.ensures
    c.split_line.ensures.line c.split_line.ensures.rest _ c.in-Some.ensures in
    Gives-along g.T.MatrixMarketScalar.scalar g.T.MatrixMarketScalar.value _ _ _ e c.body.ensures
