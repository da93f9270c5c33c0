use Rattle.sparse_io.specs.Written.{triplet_line}
use Rattle.std.proofs.Common.{arith}
use Rattle.std.proofs.lemmas.Grind.{common_steps}
use Rattle.sparse_io.proofs.writer.push_triplet.Goals as goal

pub returns : goal.returns
unfolding triplet_line
returns g c = grind (arith, common_steps)
