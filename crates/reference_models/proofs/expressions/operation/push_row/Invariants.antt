use Rattle.std.proofs.Common.{◌≡◌}
use Rattle.reference_models.specs.InnerOperation.{plain_of_operation, Lists}
use Rattle.reference_models.proofs.expressions.operation.push_row.Given as goal

abbrev pub invariant-loop-col : goal.invariant-loop-col
invariant-loop-col g l =
    let R = g.T.Ring.ring in
    let f = g.T.Ring.value in
    record {
      lists : Lists R f (plain_of_operation R f l.operation) l.row l.col l.list;
      rows : l.list.nrows ≡ l.initial.list.nrows;
      cols : l.list.ncols ≡ l.initial.list.ncols;
    }
