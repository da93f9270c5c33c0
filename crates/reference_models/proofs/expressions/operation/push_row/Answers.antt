use Rattle.std.proofs.Common.{sym, ap, ◌∙◌}
use Rattle.sparse_coo_dense.specs.CooPlain.{plain_of_coo}
use Rattle.reference_models.specs.InnerOperation.{plain_of_operation}
use Rattle.reference_models.proofs.Tabulated.{lists_more, lists_skipped}
use Rattle.reference_models.proofs.expressions.operation.push_row.Goals as goal
use Rattle.reference_models.proofs.expressions.operation.push_row.Goals.{then-has+in_ok-push, else-has}

pub loop-col-preserved : goal.loop-col-preserved
loop-col-preserved g c =
    let R = g.T.Ring.ring in
    let f = g.T.Ring.value in
    let p = plain_of_operation R f c.args.operation.now in
    elim c.if-has.branch [
      | then-has+in_ok-push w ↦
          let is = w.list-is ∙ w.in_ok-push.ensures.ok in
          record {
            lists = lists_more R f p c.loop-col.list c.if-has.list c.args.row c.loop-col.col
                w.at.result is c.loop-col.invariant.lists (sym c.has.ensures ∙ w.if-has.true)
                w.at.ensures;
            rows = ap (λ m. m.nrows) is ∙ c.loop-col.invariant.rows;
            cols = ap (λ m. m.ncols) is ∙ c.loop-col.invariant.cols;
          }
      | else-has w ↦
          let is = w.list-is in
          record {
            lists = lists_skipped R f p c.if-has.list c.args.row c.loop-col.col
                (ap (λ m. plain_of_coo R f m) is ∙ c.loop-col.invariant.lists)
                (sym c.has.ensures ∙ w.if-has.false);
            rows = ap (λ m. m.nrows) is ∙ c.loop-col.invariant.rows;
            cols = ap (λ m. m.ncols) is ∙ c.loop-col.invariant.cols;
          }
    ]
