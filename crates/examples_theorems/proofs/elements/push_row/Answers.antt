use Rattle.std.proofs.Common.{[], ◌∷◌, arith}
use Rattle.examples_theorems.specs.InnerElements.{element_triplet}
use Rattle.examples_theorems.proofs.NumberedElements.{appended_more, triplet_is}
use Rattle.examples_theorems.proofs.elements.push_row.Goals as goal

pub loop-l-preserved : goal.loop-l-preserved
loop-l-preserved g c =
    let z = g.T.Zero.zero_value in
    let e = c.args.element.now in
    let k = c.args.k in
    let l = c.loop-l.l in
    let row = c.index-row.result.now in
    let col = c.index.result.now in
    let v = c.get.result in
    appended_more c.args.list.now c.loop-l.list c.push.new.self (λ l. element_triplet z e k l ∷ [])
    l ((row, col, v) ∷ []) c.loop-l.invariant c.in_ok-push.ensures.ok
    (triplet_is z e c.args.list.now.nrows c.args.list.now.ncols k l row col v c.requires.numbered
    c.get.ensures.full c.requires.row (omega (arith, c.loop-l-test.true, c.ncols-l-end.ensures))
    c.index-row.ensures c.index.ensures c.get.ensures.value)
