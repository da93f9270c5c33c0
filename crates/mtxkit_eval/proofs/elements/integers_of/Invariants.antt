use Rattle.std.proofs.Common.{◌≡◌, All, map, take}
use Rattle.sparse_algebra.specs.Integers.{element_of}
use Rattle.sparse_algebra.specs.WrappingValues.{w128_number}
use Rattle.mtxkit_eval.proofs.elements.integers_of.Given as goal

abbrev pub invariant-loop-element : goal.invariant-loop-element
invariant-loop-element g l = record {
  images : map (λ v. element_of g.T.Ring.ring (w128_number v)) l.integers.items
      ≡ map g.T.Ring.value (take l.element-index l.elements);
  reduced : All (λ v. g.T.Residues.reduced (w128_number v) ≡ w128_number v) l.integers.items;
}
