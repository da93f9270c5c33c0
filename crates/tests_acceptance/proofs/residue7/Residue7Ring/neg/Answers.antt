use Rattle.std.proofs.Common.{arith}
use Rattle.tests_acceptance.specs.Residue7.{residue7_same}
use Rattle.tests_acceptance.proofs.residue7.Residue7Ring.neg.Goals as goal

pub returns : goal.returns
returns c = residue7_same _ _ (omega arith)
