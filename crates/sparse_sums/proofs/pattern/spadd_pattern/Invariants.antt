use Rattle.sparse_pattern.proofs.BuiltLanes.{IsBuilt}
use Rattle.sparse_sums.proofs.UnionLanes.{IsEither}
use Rattle.sparse_sums.proofs.pattern.spadd_pattern.Given as goal

abbrev pub invariant-loop-i : goal.invariant-loop-i
invariant-loop-i l = record {
  built : IsBuilt l.a.minor_dim (IsEither l.a l.b) l.i l.offsets.items l.indices.items;
}
