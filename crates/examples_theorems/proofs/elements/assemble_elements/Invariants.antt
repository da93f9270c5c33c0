use Rattle.std.proofs.Common.{take}
use Rattle.examples_theorems.specs.Elements.{numbered_element}
use Rattle.examples_theorems.proofs.PlainTotals.{IsTotal}
use Rattle.examples_theorems.proofs.elements.assemble_elements.Given as goal

abbrev pub invariant-loop-element : goal.invariant-loop-element
invariant-loop-element g l =
    let R = g.T.Ring.ring in
    let f = g.T.Ring.value in
    IsTotal R f l.nrows l.ncols (numbered_element R f l.nrows l.ncols) l.list
    (take l.element-index l.elements)
