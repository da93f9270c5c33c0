use Rattle.std.proofs.Common.{subst}
use Rattle.mtx_commands.specs.TripletPatterns.{HasOneEntryPerLane}
use Rattle.mtx_commands.proofs.OneEntryPerLane.{rows_inside, columns_inside, triplets_placed}
use Rattle.mtx_commands.proofs.fill.pattern_of.Goals as goal

pub one_entry_per_lane-requires : goal.one_entry_per_lane-requires
one_entry_per_lane-requires c =
    rw (c.row_indices.ensures.rows, c.nrows.ensures)
    (rows_inside c.args.triplets.now c.row_indices.ensures.inside)

pub one_entry_per_lane-requires-2 : goal.one_entry_per_lane-requires-2
one_entry_per_lane-requires-2 c =
    rw (c.col_indices.ensures.cols, c.ncols.ensures)
    (columns_inside c.args.triplets.now c.col_indices.ensures.inside)

pub returns-clause-entries : goal.returns-clause-entries
returns-clause-entries c =
    let of_columns = subst (HasOneEntryPerLane c.in_ok-columns.columns) c.col_indices.ensures.cols
    c.in_ok-columns.ensures.entries in
    let of_rows = subst (HasOneEntryPerLane c.in_ok-rows.rows) c.row_indices.ensures.rows
    c.in_ok-rows.ensures.entries in
    triplets_placed c.args.triplets.now c.in_ok-pattern.pattern c.in_ok-columns.columns
    c.in_ok-transposed.transposed c.in_ok-rows.rows of_columns of_rows
    c.in_ok-transposed.ensures.transposed c.in_ok-pattern.ensures.entries
