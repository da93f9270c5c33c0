use Rattle.std.proofs.Common.{arith}
use Rattle.std.proofs.lemmas.Grind.{elements}
use Rattle.sparse_compressed.proofs.CsMatrix.lane.Goals as goal

pub returns : goal.returns
returns g c = rw (
  c.new.ensures,
  c.minor_dim.ensures,
  c.of_lane.ensures,
  c.lane_bounds-begin.ensures.start,
  c.lane_bounds-begin.ensures.end,
  c.values.ensures.values,
  c.pattern-pattern.ensures.pattern,
)

-- ---- written by tools/answer-goals

pub new-requires : goal.new-requires
new-requires g c = grind (arith, elements)
