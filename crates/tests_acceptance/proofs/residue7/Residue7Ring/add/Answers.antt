use Rattle.std.proofs.Common.{sym}
use Rattle.std.proofs.Math.Nat.{add-mod}
use Rattle.tests_acceptance.specs.Residue7.{residue7_same}
use Rattle.tests_acceptance.proofs.residue7.Residue7Ring.add.Goals as goal

pub returns : goal.returns
returns c = residue7_same _ _ (sym (add-mod c.args.self.number c.args.other.number 7))
