use Rattle.std.proofs.lemmas.Result.{err_from_is_err_and}
use Rattle.mtxkit_patterns.specs.Orders.{IsNoSquare}
use Rattle.mtxkit_commands.proofs.OrderRefusals.{one_refused}
use Rattle.file_readings.proofs.Readings.{one_read}
use Rattle.mtxkit_commands.proofs.orders.ordered_of.Goals as goal

pub returns-in_err-order_text-clause-failed : goal.returns-in_err-order_text-clause-failed
returns-in_err-order_text-clause-failed g c =
    let p = err_from_is_err_and c.from_residual-in_err-order_text.result
    c.from_residual-in_err-order_text.ensures.1 in
    rw (p.1, p.2) (one_refused (IsNoSquare 1) c.args.file.now c.as_str.result.now _ _
    (one_read _ _ _ _ _ c.in_ok-text.ensures.read c.as_str.ensures.value) _
    c.in_err-order_text.ensures.refused)
