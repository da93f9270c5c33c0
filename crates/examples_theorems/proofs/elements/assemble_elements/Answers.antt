use Rattle.examples_theorems.specs.Elements.{numbered_element}
use Rattle.examples_theorems.specs.InnerElements.{element_triplets}
use Rattle.examples_theorems.proofs.PlainTotals.{total_appended}
use Rattle.examples_theorems.proofs.NumberedElements.{element-numbered}
use Rattle.examples_theorems.proofs.elements.assemble_elements.Goals as goal

pub loop-element-preserved : goal.loop-element-preserved
loop-element-preserved g c =
    let R = g.T.Ring.ring in
    let f = g.T.Ring.value in
    let z = g.T.Zero.zero_value in
    let n = c.args.nrows in
    let m = c.args.ncols in
    let e = c.element-item.result in
    total_appended R f n m (numbered_element R f n m) c.loop-element.list c.push_element.new.list
    c.args.elements.now c.loop-element.element-index e (element_triplets z e e.matrix.nrows)
    c.in_ok-push_element.ensures c.loop-element-test.true c.element-item.is
    (element-numbered R f z g.met.T.Ring.zero_law n m e) c.loop-element.invariant
