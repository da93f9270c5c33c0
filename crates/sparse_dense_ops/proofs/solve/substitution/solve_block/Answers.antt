use Rattle.std.proofs.Common.{◌≡◌, arith}
use Rattle.sparse_dense_ops.proofs.ColumnBlocks.{one_column}
use Rattle.sparse_dense_ops.proofs.solve.substitution.solve_block.Goals as goal

pub solve_four-requires-clause-count : goal.solve_four-requires-clause-count
solve_four-requires-clause-count g c = rw c.if-width-eq-BLOCK.true at c.requires.count

pub returns-then-width-eq-BLOCK : goal.returns-then-width-eq-BLOCK
returns-then-width-eq-BLOCK g c = rw c.if-width-eq-BLOCK.true c.solve_four.ensures

pub solve_one-requires-clause-rows : goal.solve_one-requires-clause-rows
solve_one-requires-clause-rows g c =
    let one : c.args.width ≡ 1 = grind (arith, c.requires.widths, c.if-width-eq-BLOCK.false) in
    omega (arith, rw one at c.requires.count, c.requires.rows)

pub returns-else-width-eq-BLOCK : goal.returns-else-width-eq-BLOCK
returns-else-width-eq-BLOCK g c =
    let one : c.args.width ≡ 1 = grind (arith, c.requires.widths, c.if-width-eq-BLOCK.false) in
    rw one (one_column (omega (arith, rw one at c.requires.count)) c.solve_one.auto.x
    c.solve_one.ensures)
