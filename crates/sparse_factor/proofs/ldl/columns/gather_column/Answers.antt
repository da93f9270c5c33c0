use Rattle.sparse_factor.proofs.GatheredColumns.{gathered_next}
use Rattle.sparse_factor.proofs.ldl.columns.gather_column.Goals as goal

pub loop-at-preserved : goal.loop-at-preserved
loop-at-preserved g c =
    let offsets = c.major_offsets-offsets.ensures.offsets in
    let rows = c.minor_indices-rows.ensures.indices in
    let lane = c.major_offsets-offsets.ensures.valid.lanes c.args.j c.requires.lane in
    rw (c.zero.ensures, rows) (gathered_next c.loop-at.invariant lane
    (rw offsets at c.loop-at.auto.at) (rw offsets at c.loop-at-test.true) c.requires.count
    c.requires.rows (rw rows at c.index-column-i.is) c.mul.ensures)
