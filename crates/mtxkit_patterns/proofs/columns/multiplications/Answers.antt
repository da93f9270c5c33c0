use Rattle.std.proofs.Common.{◌≡◌, ◌*◌, ◌+◌, ◌<◌, ◌≤◌, ◌^◌, length, ap, sym, ◌∙◌, arith}
use Rattle.sparse_pattern.specs.Raw.{end_of}
use Rattle.mtxkit_patterns.specs.Columns.{pairs_of, rows_below, below_diagonal}
use Rattle.mtxkit_patterns.proofs.ColumnProducts.{few_more, products_more}
use Rattle.mtxkit_patterns.proofs.columns.multiplications.Goals as goal

rows_are : (c : goal.After-below_diagonal) → length c.below_diagonal.result.now
    ≡ length (rows_below c.args.factor.now c.loop-col.col)
rows_are c = ap length (c.below_diagonal.ensures
    ∙ ap (below_diagonal c.loop-col.col) c.lane.ensures)

more : (c : goal.After-below_diagonal)
    → c.loop-col.products + pairs_of (length c.below_diagonal.result.now)
    ≤ end_of c.args.factor.now c.loop-col.col * 2 ^ 60
more c =
    let valid = c.minor_indices.ensures.valid in
    let lane = valid.lanes c.loop-col.col (omega arith) in
    let short : length c.below_diagonal.result.now < 2 ^ 60 = omega (arith, c.below_diagonal.type_inv) in
    let rows = rows_are c in
    rw rows (few_more c.args.factor.now c.loop-col.col lane c.loop-col.products
    c.loop-col.invariant.few (omega (arith, short, rows)))

pub overflow_add-products-in-loop-col : goal.overflow_add-products-in-loop-col
overflow_add-products-in-loop-col c =
    let valid = c.minor_indices.ensures.valid in
    let lane = valid.lanes c.loop-col.col (omega arith) in
    let long = ap length c.minor_indices.ensures.indices in
    omega (arith, more c, lane.inside, long, c.minor_indices.type_inv)

pub loop-col-preserved : goal.loop-col-preserved
loop-col-preserved c = record {
  products = rw (rows_are c, c.loop-col.invariant.products)
      (sym (products_more c.args.factor.now c.loop-col.col));
  few = more c;
}
