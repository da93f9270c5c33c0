use Rattle.sparse_algebra.proofs.ModClasses.{mod_class_of}
use Rattle.sparse_algebra.proofs.scalar.residues.ModRing.one.Goals as goal

pub returns : goal.returns
returns g c = mod_class_of g.row.M 1 _ c.new.ensures
