use Rattle.std.proofs.Common.{◌%◌, ◌∙◌}
use Rattle.nalgebra_sparse.specs.Residues.{mul-mod_left, mul-mod_right}
use Rattle.tests_acceptance.specs.Residue7.{residue7_same}
use Rattle.tests_acceptance.proofs.residue7.Residue7Ring.mul.Goals as goal

pub returns : goal.returns
returns c = residue7_same _ _ (mul-mod_left c.args.self.number (c.args.other.number % 7) 7
    ∙ mul-mod_right c.args.self.number c.args.other.number 7)
