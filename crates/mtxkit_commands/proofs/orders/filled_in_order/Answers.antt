use Rattle.std.proofs.lemmas.Result.{err_from_is_err_and}
use Rattle.mtxkit_patterns.specs.FillTexts.{IsUnfilled}
use Rattle.mtxkit_commands.proofs.OrderRefusals.{two_refused}
use Rattle.file_readings.proofs.Readings.{two_read}
use Rattle.mtxkit_commands.proofs.orders.filled_in_order.Goals as goal

pub returns-in_err-fill_text_in_order-clause-failed : goal.returns-in_err-fill_text_in_order-clause-failed
returns-in_err-fill_text_in_order-clause-failed g c =
    let p = err_from_is_err_and c.from_residual-in_err-fill_text_in_order.result
    c.from_residual-in_err-fill_text_in_order.ensures.1 in
    rw (p.1, p.2) (two_refused IsUnfilled c.args.order.now c.args.file.now c.as_str.result.now
    c.as_str-2.result.now _ _
    (two_read _ _ _ _ _ _ _ _ _ c.in_ok-first.ensures.read c.in_ok-second.ensures.read
    c.as_str.ensures.value c.as_str-2.ensures.value) _ c.in_err-fill_text_in_order.ensures.refused)
