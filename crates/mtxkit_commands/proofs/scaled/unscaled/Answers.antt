use Rattle.std.proofs.Common.{refl}
use Rattle.mtxkit_commands.proofs.FoundScales.{none_found}
use Rattle.mtxkit_commands.proofs.scaled.unscaled.Goals as goal

pub returns-in-Ok : goal.returns-in-Ok
returns-in-Ok c = (refl, rw c.in-Fraction.is c.in-Ok.ensures)

pub returns-in_default : goal.returns-in_default
returns-in_default c =
    (refl, none_found c.args.text.now c.args.error c.in_default.not-Fraction)
