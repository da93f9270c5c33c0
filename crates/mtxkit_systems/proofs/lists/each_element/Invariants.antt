use Rattle.std.proofs.Common.{◌≡◌, map, take}
use Rattle.sparse_algebra.specs.Integers.{element_of}
use Rattle.mtxkit_systems.proofs.lists.each_element.Given as goal

abbrev pub invariant-loop-integer : goal.invariant-loop-integer
invariant-loop-integer g l = map g.T.Ring.value l.elements.items
    ≡ map (element_of g.T.Ring.ring) (take l.integer-index l.integers)
