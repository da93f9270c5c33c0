use Rattle.std.proofs.Common.{arith}
use Rattle.sparse_dense_ops.proofs.ColumnSteps.{pivot_column}
use Rattle.sparse_dense_ops.proofs.Substitutions.{backward_end, backward_start, backward_step}
use Rattle.sparse_dense_ops.proofs.solve.backward.solve_backward.Goals as goal

pub loop-step-init : goal.loop-step-init
loop-step-init g c = backward_start (omega arith)

pub dot-known-requires-clause-inside : goal.dot-known-requires-clause-inside
dot-known-requires-clause-inside g c = λ q d lt.
    omega (
      arith,
      c.in-Some.ensures.some.inside q d lt,
      c.loop-step.auto.x,
      c.requires.rows,
      c.requires.square,
    )

pub loop-step-preserved : goal.loop-step-preserved
loop-step-preserved g c = backward_step
    (pivot_column c.args.l.now c.in-Some.ensures.some
    (omega (arith, c.requires.square, c.requires.rows)) (omega arith))
    c.loop-step.invariant c.solve_row.ensures c.dot-known.ensures (omega arith) (omega arith)

pub returns : goal.returns
returns g c = backward_end c.loop-step.invariant (omega arith)
