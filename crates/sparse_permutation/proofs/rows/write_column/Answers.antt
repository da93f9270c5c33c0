use Rattle.std.proofs.Common.{◌<◌, get_or, arith}
use Rattle.sparse_permutation.proofs.Orders.{order_below}
use Rattle.sparse_permutation.proofs.PermutedColumns.{none_written, one_written, value_stored}
use Rattle.sparse_permutation.proofs.rows.write_column.Goals as goal

pub loop-i-init : goal.loop-i-init
loop-i-init g c = none_written c.args.a.now c.args.order.now c.args.j c.args.permuted.now
    c.requires.same_rows c.requires.same_cols c.requires.full

pub loop-i-preserved : goal.loop-i-preserved
loop-i-preserved g c =
    let a = c.args.a.now in
    let order = c.args.order.now in
    let i = c.loop-i.i in
    let row : get_or order i 0 < a.nrows =
    omega (arith, c.requires.rows, order_below c.requires.valid i (omega arith)) in
    one_written a order c.args.j c.args.permuted.now c.loop-i.permuted c.set.new.self i
    c.get-value.result c.loop-i.invariant
    (λ z. value_stored a (get_or order i 0) c.args.j c.get-value.result z c.get-value.ensures.full
    row c.requires.col c.get-value.ensures.value) c.set.ensures.values
