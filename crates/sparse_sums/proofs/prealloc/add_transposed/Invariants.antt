use Rattle.sparse_compressed.specs.Compressed.{lane_triplets}
use Rattle.sparse_sums.proofs.TargetLookups.{AreAdding}
use Rattle.sparse_sums.proofs.prealloc.add_transposed.Given as goal

abbrev pub invariant-loop-i : goal.invariant-loop-i
invariant-loop-i g l = AreAdding g.T.Ring.ring g.T.Ring.value g.T.Zero.zero_value l.target
    (g.T.Ring.value l.alpha) (lane_triplets l.a) l.i-iterator l.initial.values l.values
