use Rattle.sparse_coo_dense.proofs.CooParts.{coo-split, parts-split}
use Rattle.sparse_views.proofs.coo.CooView.of.Goals as goal

pub invariant_of-result : goal.invariant_of-result
invariant_of-result g c = rw (c.nrows.ensures, c.ncols.ensures)
    (parts-split c.args.matrix.now c.row_indices.result.now c.col_indices.result.now
    c.values.result.now c.row_indices.ensures.rows c.col_indices.ensures.cols c.values.ensures
    c.row_indices.ensures.inside)

pub returns : goal.returns
returns g c = rw (c.nrows.ensures, c.ncols.ensures)
    (coo-split c.args.matrix.now c.row_indices.result.now c.col_indices.result.now
    c.values.result.now c.row_indices.ensures.rows c.col_indices.ensures.cols c.values.ensures)
