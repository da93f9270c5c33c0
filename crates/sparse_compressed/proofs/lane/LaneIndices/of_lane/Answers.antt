-- written by tools/answer-goals
use Rattle.std.proofs.lemmas.Grind.{elements}
use Rattle.std.proofs.Common.{arith}
use Rattle.sparse_compressed.proofs.lane.LaneIndices.of_lane.Goals as goal

pub new-requires : goal.new-requires
new-requires g c = grind (arith, elements)
