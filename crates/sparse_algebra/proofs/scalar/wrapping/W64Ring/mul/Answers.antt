use Rattle.std.proofs.Common.{refl}
use Rattle.std.specs.Int.{w64}
use Rattle.sparse_algebra.specs.Wrapping.{class_of_mul}
use Rattle.sparse_algebra.proofs.scalar.wrapping.W64Ring.mul.Goals as goal

pub returns : goal.returns
returns c = class_of_mul w64 c.args.self.number c.args.other.number _ refl
