use Rattle.std.proofs.Common.{refl}
use Rattle.sparse_factor.specs.InnerNested.{moved}
use Rattle.sparse_factor.proofs.ldl.updates.advance.Goals as goal

pub returns-clause-moved : goal.returns-clause-moved
unfolding moved
returns-clause-moved c = refl
