use Rattle.std.proofs.Common.{arith}
use Rattle.reference_models.specs.InnerOperation.{plain_of_operation}
use Rattle.reference_models.proofs.Tabulated.{lists_all, proper_operation}
use Rattle.reference_models.proofs.expressions.operation.tabulated.Goals as goal

pub returns : goal.returns
returns g c =
    let R = g.T.Ring.ring in
    let f = g.T.Ring.value in
    record {
      is = lists_all R f (plain_of_operation R f c.args.operation.now) c.loop-row.list
          c.loop-row.row (proper_operation R f c.args.operation.now) c.requires.within
          (omega (arith, c.nrows-row-end.ensures)) c.loop-row.invariant;
    }
