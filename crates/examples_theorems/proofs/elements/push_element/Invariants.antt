use Rattle.std.proofs.Common.{◌≡◌}
use Rattle.nalgebra_sparse.specs.Coo.{appended}
use Rattle.examples_theorems.specs.InnerElements.{element_triplets}
use Rattle.examples_theorems.proofs.elements.push_element.Given as goal

abbrev pub invariant-loop-k : goal.invariant-loop-k
invariant-loop-k g l =
    l.list ≡ appended l.initial.list (element_triplets g.T.Zero.zero_value l.element l.k)
