use Rattle.std.proofs.Common.{length, ap, arith}
use Rattle.std.proofs.Math.Nat.{mul_comm}
use Rattle.sparse_dense_ops.proofs.SolvedColumns.{solved_columns, solved_empty}
use Rattle.sparse_dense_ops.proofs.solve.substitution.solve_columns.Goals as goal

pub solve_blocks-requires-clause-pivots : goal.solve_blocks-requires-clause-pivots
solve_blocks-requires-clause-pivots g c = rw c.ncols.ensures c.requires.pivots

pub returns-then-nrows-gt0 : goal.returns-then-nrows-gt0
returns-then-nrows-gt0 g c = solved_columns
    (omega (
      arith,
      ap length c.as_mut_slice.ensures.values,
      c.as_mut_slice.ensures.count,
      mul_comm c.args.b.now.nrows c.args.b.now.ncols,
    ))
    (rw (c.nrows-then-nrows-gt0.ensures, c.ncols.ensures, c.as_mut_slice.ensures.values) at
    c.solve_blocks.ensures)

pub returns-else-nrows-gt0 : goal.returns-else-nrows-gt0
returns-else-nrows-gt0 g c = solved_empty (omega (arith, c.nrows.ensures, c.if-nrows-gt0.false))
