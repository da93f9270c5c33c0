use Rattle.std.proofs.lemmas.Result.{err_from_is_err_and}
use Rattle.mtxkit_patterns.specs.Permuted.{IsUnpermuted}
use Rattle.mtxkit_commands.proofs.OrderRefusals.{two_refused}
use Rattle.file_readings.proofs.Readings.{two_read}
use Rattle.mtxkit_commands.proofs.orders.permuted_of.Goals as goal

pub returns-in_err-permute_text-clause-failed : goal.returns-in_err-permute_text-clause-failed
returns-in_err-permute_text-clause-failed g c =
    let p = err_from_is_err_and c.from_residual-in_err-permute_text.result
    c.from_residual-in_err-permute_text.ensures.1 in
    rw (p.1, p.2) (two_refused IsUnpermuted c.args.order.now c.args.file.now c.as_str.result.now
    c.as_str-2.result.now _ _
    (two_read _ _ _ _ _ _ _ _ _ c.in_ok-first.ensures.read c.in_ok-second.ensures.read
    c.as_str.ensures.value c.as_str-2.ensures.value) _ c.in_err-permute_text.ensures.refused)
