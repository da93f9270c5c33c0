use Rattle.std.proofs.Common.{◌≡◌, All, map, take}
use Rattle.sparse_algebra.specs.Integers.{element_of}
use Rattle.mtxkit_systems.proofs.lists.each_integer.Given as goal

abbrev pub invariant-loop-element : goal.invariant-loop-element
invariant-loop-element g l = record {
  meant : map (element_of g.T.Ring.ring) l.integers.items
      ≡ map g.T.Ring.value (take l.element-index l.elements);
  reduced : All (λ z. g.T.Residues.reduced z ≡ z) l.integers.items;
}
