use Rattle.sparse_io.proofs.PlaceLaws.{columns_start, columns_end}
use Rattle.sparse_io.proofs.reader.places.Places.first_from.Goals as goal

pub returns-then-row-rows-clause-places : goal.returns-then-row-rows-clause-places
returns-then-row-rows-clause-places c =
    columns_start c.args.symmetry c.args.rows c.args.cols _ c.args.col c.first_row-row.ensures
    c.if-col-cols.true

pub returns-else-row-rows-clause-places : goal.returns-else-row-rows-clause-places
returns-else-row-rows-clause-places c =
    columns_end c.args.symmetry c.args.rows c.args.cols _ c.args.col c.first_row-row.ensures
    c.if-row-rows.false
