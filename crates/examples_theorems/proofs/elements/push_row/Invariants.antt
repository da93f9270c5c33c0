use Rattle.std.proofs.Common.{◌≡◌}
use Rattle.nalgebra_sparse.specs.Coo.{appended}
use Rattle.examples_theorems.specs.InnerElements.{row_triplets}
use Rattle.examples_theorems.proofs.elements.push_row.Given as goal

abbrev pub invariant-loop-l : goal.invariant-loop-l
invariant-loop-l g l =
    l.list ≡ appended l.initial.list (row_triplets g.T.Zero.zero_value l.element l.k l.l)
