use Rattle.std.proofs.Common.{refl}
use Rattle.std.specs.Int.{w128}
use Rattle.sparse_algebra.specs.Wrapping.{class_of_mul}
use Rattle.sparse_algebra.proofs.scalar.wide.W128Ring.mul.Goals as goal

pub returns : goal.returns
returns c = class_of_mul w128 c.args.self.number c.args.other.number _ refl
