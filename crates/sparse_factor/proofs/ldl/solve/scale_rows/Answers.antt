use Rattle.sparse_factor.proofs.ScaledRows.{scaled_more}
use Rattle.sparse_factor.proofs.ldl.solve.scale_rows.Goals as goal

pub loop-j-preserved : goal.loop-j-preserved
loop-j-preserved g c =
    let column = c.column_mut.ensures in
    scaled_more c.scale_column.new.x c.loop-j.invariant column.exact column.rows
    c.scale_column.auto.x column.values c.scale_column.ensures
