use Rattle.std.proofs.Common.{◌+◌}
use Rattle.mtxkit_matrices.proofs.TrimmedDigits.{is_none, none_more}
use Rattle.mtxkit_matrices.proofs.decimals.mantissa.with_digit.Goals as goal

pub returns-in_err-part : goal.returns-in_err-part
returns-in_err-part c = λ value h. is_none _ _ _ c.from_residual.ensures
    (none_more value (c.args.zeros + 1) c.args.digit (rw c.in_err-part.was at h))
