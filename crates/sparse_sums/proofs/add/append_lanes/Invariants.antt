use Rattle.std.proofs.Common.{not, eqb}
use Rattle.sparse_sums.proofs.SumLanes.{IsSumBelow}
use Rattle.sparse_sums.proofs.add.append_lanes.Given as goal

abbrev pub invariant-loop-i : goal.invariant-loop-i
invariant-loop-i g l = record {
  built : IsSumBelow g.T.Ring.ring g.T.Ring.value (not (eqb g.row.NEGATE 0)) l.a l.b l.i
      l.offsets.items l.indices.items l.values.items;
}
