use Rattle.sparse_sums.proofs.TargetLookups.{AreCovered}
use Rattle.sparse_sums.proofs.prealloc.covers_transposed.Given as goal

abbrev pub invariant-loop-i : goal.invariant-loop-i
invariant-loop-i l = AreCovered l.target l.a l.i-iterator
