use Rattle.std.proofs.Common.{refl}
use Rattle.mtxkit_matrices.proofs.Magnitudes.{is_wide_part}
use Rattle.mtxkit_matrices.proofs.decimals.magnitude.raised_part.Goals as goal

pub returns-in_default : goal.returns-in_default
returns-in_default c = λ value h.
    (refl, is_wide_part value c.args.zeros (rw c.in_default.is at h))
