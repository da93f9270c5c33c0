use Rattle.std.proofs.Common.{ap, inr, ◌∙◌}
use Rattle.sparse_parser.specs.Errors.{kind_of_cause}
use Rattle.sparse_io.proofs.LineRuns.{fault_is}
use Rattle.sparse_io.proofs.Parts.{body_no_size, body_bad_size, body_good_size, Gives-along}
use Rattle.sparse_io.proofs.reader.body.Goals as goal

pub returns-in-None : goal.returns-in-None
returns-in-None g c =
    let e = body_no_size g.T.MatrixMarketScalar.scalar c.args.header c.args.text.now _ _ _
    c.next_line.ensures.begins c.next_line.ensures.same c.split_line.ensures.line
    c.split_line.ensures.rest c.in-None.ensures in
    inr (fault_is e (ap kind_of_cause c.new.ensures))

pub returns-in-Some-Err : goal.returns-in-Some-Err
returns-in-Some-Err g c =
    let e = body_bad_size g.T.MatrixMarketScalar.scalar c.args.header c.args.text.now _ _ _
    c.next_line.ensures.begins c.next_line.ensures.same c.split_line.ensures.line
    c.split_line.ensures.rest _ _ c.in-Some-Err.ensures c.in-Some-Err.field-0-is in
    inr (fault_is e (ap kind_of_cause c.new-in-Some-Err.ensures ∙ c.in_grammar.ensures))

pub returns-in-Some-Ok : goal.returns-in-Some-Ok
returns-in-Some-Ok g c =
    let e = body_good_size g.T.MatrixMarketScalar.scalar c.args.header c.args.text.now _ _ _
    c.next_line.ensures.begins c.next_line.ensures.same c.split_line.ensures.line
    c.split_line.ensures.rest _ _ c.in-Some-Ok.ensures c.in-Some-Ok.field-0-is in
    Gives-along g.T.MatrixMarketScalar.scalar g.T.MatrixMarketScalar.value _ _ _ e c.read_entries.ensures
