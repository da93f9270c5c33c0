use Rattle.std.proofs.Common.{◌≡◌, map, take}
use Rattle.mtxkit_eval.specs.Extents.{greatest, magnitude}
use Rattle.mtxkit_eval.proofs.extents.greatest.Given as goal

abbrev pub invariant-loop-value : goal.invariant-loop-value
invariant-loop-value l = l.greatest ≡ greatest (map magnitude (take l.value-index l.values))
