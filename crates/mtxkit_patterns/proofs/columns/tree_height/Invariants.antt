use Rattle.mtxkit_patterns.specs.InnerDepths.{AreDepths}
use Rattle.mtxkit_patterns.proofs.columns.tree_height.Given as goal

abbrev pub invariant-loop-done : goal.invariant-loop-done
invariant-loop-done l = AreDepths l.factor l.done l.depths.items l.height
