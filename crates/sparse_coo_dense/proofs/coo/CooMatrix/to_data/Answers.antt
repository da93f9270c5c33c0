use Rattle.std.proofs.Common.{◌∙◌}
use Rattle.sparse_coo_dense.proofs.CooParts.{coo-split, parts-split}
use Rattle.sparse_coo_dense.proofs.coo.CooMatrix.to_data.Goals as goal

pub returns-clause-is : goal.returns-clause-is
returns-clause-is g c = rw (c.nrows.ensures, c.ncols.ensures)
    (coo-split c.args.self.now c.in_ok-from_slice.field-0.items c.in_ok-from_slice-2.field-0.items
    c.in_ok-from_slice-3.field-0.items (c.in_ok-from_slice.ensures.items
    ∙ c.row_indices.ensures.rows) (c.in_ok-from_slice-2.ensures.items
    ∙ c.col_indices.ensures.cols) (c.in_ok-from_slice-3.ensures.items ∙ c.values.ensures))

pub returns-clause-valid : goal.returns-clause-valid
returns-clause-valid g c = rw (c.nrows.ensures, c.ncols.ensures)
    (parts-split c.args.self.now c.in_ok-from_slice.field-0.items c.in_ok-from_slice-2.field-0.items
    c.in_ok-from_slice-3.field-0.items (c.in_ok-from_slice.ensures.items
    ∙ c.row_indices.ensures.rows) (c.in_ok-from_slice-2.ensures.items
    ∙ c.col_indices.ensures.cols) (c.in_ok-from_slice-3.ensures.items ∙ c.values.ensures)
    c.row_indices.ensures.inside)
