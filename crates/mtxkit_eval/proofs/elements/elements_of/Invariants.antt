use Rattle.std.proofs.Common.{◌≡◌, map, take}
use Rattle.sparse_algebra.specs.Integers.{element_of}
use Rattle.sparse_algebra.specs.WrappingValues.{w128_number}
use Rattle.mtxkit_eval.proofs.elements.elements_of.Given as goal

abbrev pub invariant-loop-integer : goal.invariant-loop-integer
invariant-loop-integer g l = map g.T.Ring.value l.elements.items
    ≡ map (λ v. element_of g.T.Ring.ring (w128_number v)) (take l.integer-index l.integers)
