use Rattle.std.proofs.Common.{arith}
use Rattle.sparse_factor.proofs.ScaledRows.{scaled_entry}
use Rattle.sparse_factor.proofs.ldl.solve.scale_column.Goals as goal

pub loop-i-preserved : goal.loop-i-preserved
loop-i-preserved g c =
    scaled_entry c.loop-i.invariant (omega (arith, c.loop-i-test.true, c.loop-i.auto.x))
    (omega (arith, c.loop-i-test.true, c.requires)) c.index-x-i.is c.index-factors-i.is
    c.mul.ensures
