use Rattle.std.proofs.Common.{take}
use Rattle.examples_theorems.specs.Assembly.{placed_block}
use Rattle.examples_theorems.proofs.PlainTotals.{IsTotal}
use Rattle.examples_theorems.proofs.assembly.assemble.Given as goal

abbrev pub invariant-loop-block : goal.invariant-loop-block
invariant-loop-block g l =
    let R = g.T.Ring.ring in
    let f = g.T.Ring.value in
    IsTotal R f l.nrows l.ncols (placed_block R f l.nrows l.ncols) l.list
    (take l.block-index l.blocks)
