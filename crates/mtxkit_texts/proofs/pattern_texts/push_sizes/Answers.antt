use Rattle.std.proofs.Common.{arith}
use Rattle.std.proofs.lemmas.Grind.{common_steps}
use Rattle.sparse_io.specs.Written.{size_line}
use Rattle.mtxkit_texts.proofs.pattern_texts.push_sizes.Goals as goal

pub returns : goal.returns
unfolding size_line
returns c = grind (arith, common_steps)
