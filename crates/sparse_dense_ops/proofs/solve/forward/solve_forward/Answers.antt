use Rattle.std.proofs.Common.{arith}
use Rattle.sparse_dense_ops.proofs.ColumnSteps.{pivot_column}
use Rattle.sparse_dense_ops.proofs.Substitutions.{forward_end, forward_step}
use Rattle.sparse_dense_ops.proofs.solve.forward.solve_forward.Goals as goal

pub eliminate_column-requires-clause-inside : goal.eliminate_column-requires-clause-inside
eliminate_column-requires-clause-inside g c = λ q d lt.
    omega (
      arith,
      c.in-Some.ensures.some.inside q d lt,
      c.loop-k.auto.x,
      c.requires.rows,
      c.requires.square,
    )

pub eliminate_column-requires-clause-above : goal.eliminate_column-requires-clause-above
eliminate_column-requires-clause-above g c = c.in-Some.ensures.some.above c.loop-k.k (omega arith)

pub loop-k-preserved : goal.loop-k-preserved
loop-k-preserved g c = forward_step
    (pivot_column c.args.l.now c.in-Some.ensures.some
    (omega (arith, c.requires.square, c.requires.rows)) (omega arith))
    c.loop-k.invariant c.eliminate_column.ensures c.loop-k.auto.x

pub returns : goal.returns
returns g c = forward_end c.loop-k.invariant (omega arith)
