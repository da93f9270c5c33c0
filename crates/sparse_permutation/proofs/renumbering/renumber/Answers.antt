use Rattle.std.proofs.Common.{List, ℕ, map, get_or, ap, ◌∙◌}
use Rattle.sparse_coo_dense.specs.Coo.{coo_of}
use Rattle.sparse_permutation.proofs.RenumberedLists.{rows_below, cols_below, lists_renumbered}
use Rattle.sparse_permutation.proofs.renumbering.renumber.Goals as goal

pub renumber_indices-new_rows-requires : goal.renumber_indices-new_rows-requires
renumber_indices-new_rows-requires g c =
    let m = c.args.list in
    rw (c.order-order.ensures.order, c.disassemble-rows.ensures.rows, ← c.requires.rows)
    (rows_below m.nrows m.ncols m.triplets c.disassemble-rows.ensures.inside)

pub renumber_indices-new_cols-requires : goal.renumber_indices-new_cols-requires
renumber_indices-new_cols-requires g c =
    let m = c.args.list in
    rw (c.order-order.ensures.order, c.disassemble-rows.ensures.cols, ← c.requires.cols)
    (cols_below m.nrows m.ncols m.triplets c.disassemble-rows.ensures.inside)

pub coo_from_lists-requires : goal.coo_from_lists-requires
coo_from_lists-requires g c =
    let q = c.args.numbers.now in
    let parts = c.disassemble-rows in
    let order = c.order-order.ensures in
    let by = λ (xs : List ℕ). ap (λ (q : List ℕ). map (λ i. get_or q i 0) xs) order.order in
    rw (c.nrows-nrows.ensures, c.ncols-ncols.ensures)
    (lists_renumbered q c.args.list parts.result.0.items parts.result.1.items
    c.renumber_indices-new_rows.result.items c.renumber_indices-new_cols.result.items
    parts.result.2.items order.valid c.requires.rows c.requires.cols parts.ensures.inside
    parts.ensures.rows parts.ensures.cols parts.ensures.values
    (c.renumber_indices-new_rows.ensures ∙ by parts.result.0.items)
    (c.renumber_indices-new_cols.ensures ∙ by parts.result.1.items)).0

pub returns : goal.returns
returns g c =
    let q = c.args.numbers.now in
    let m = c.args.list in
    let parts = c.disassemble-rows in
    let order = c.order-order.ensures in
    let by = λ (xs : List ℕ). ap (λ (q : List ℕ). map (λ i. get_or q i 0) xs) order.order in
    c.coo_from_lists.ensures ∙ rw (c.nrows-nrows.ensures, c.ncols-ncols.ensures)
    (ap (coo_of m.nrows m.ncols)
    (lists_renumbered q m parts.result.0.items parts.result.1.items
    c.renumber_indices-new_rows.result.items c.renumber_indices-new_cols.result.items
    parts.result.2.items order.valid c.requires.rows c.requires.cols parts.ensures.inside
    parts.ensures.rows parts.ensures.cols parts.ensures.values
    (c.renumber_indices-new_rows.ensures ∙ by parts.result.0.items)
    (c.renumber_indices-new_cols.ensures ∙ by parts.result.1.items)).1)
