use Rattle.std.proofs.Common.{ap, sym, ◌∙◌}
use Rattle.sparse_algebra.specs.Plain.{plain_transpose}
use Rattle.sparse_compressed.specs.PlainOfLanes.{plain_of_rows}
use Rattle.sparse_c.specs.Orders.{in_order}
use Rattle.c_arrays.specs.Arrays.{plain_of_lists}
use Rattle.sparse_c.proofs.assembly.assembling.assembled.Goals as goal

pub returns-in-Rows-clause-plain : goal.returns-in-Rows-clause-plain
returns-in-Rows-clause-plain g c =
    let R = g.T.Ring.ring in
    let t = c.args.triplets in
    let a = plain_of_lists R t.rows t.cols t.row_indices.now t.col_indices.now t.values.now in
    c.in_ok-convert_coo_csr-in-Rows.ensures.plain ∙ c.in_ok-list.ensures.plain
    ∙ ap (λ order. in_order R order a) (sym c.in-Rows.is)

pub returns-clause-plain : goal.returns-clause-plain
returns-clause-plain g c =
    let R = g.T.Ring.ring in
    let t = c.args.triplets in
    let a = plain_of_lists R t.rows t.cols t.row_indices.now t.col_indices.now t.values.now in
    ap (plain_of_rows R g.T.Ring.value) c.transpose_as_csr.ensures
    ∙ ap (plain_transpose R)
    (c.in_ok-convert_coo_csc-in-Columns.ensures.plain ∙ c.in_ok-list.ensures.plain)
    ∙ ap (λ order. in_order R order a) (sym c.in-Columns.is)
