use Rattle.std.proofs.lemmas.Grind.{common_steps}
use Rattle.std.proofs.Common.{length, ◌∙◌, arith}
use Rattle.sparse_dense_ops.proofs.ColumnSteps.{pivot_column}
use Rattle.sparse_dense_ops.proofs.Substitutions.{forward_end, forward_step}
use Rattle.sparse_dense_ops.proofs.solve.forward.solve_forward_four.Goals as goal

pub eliminate_column_four-requires-clause-inside : goal.eliminate_column_four-requires-clause-inside
eliminate_column_four-requires-clause-inside g c = λ q d lt.
    omega (
      arith,
      c.in-Some.ensures.some.inside q d lt,
      c.loop-k.auto.first,
      c.requires.rows,
      c.requires.square,
    )

pub eliminate_column_four-requires-clause-above : goal.eliminate_column_four-requires-clause-above
eliminate_column_four-requires-clause-above g c = c.in-Some.ensures.some.above c.loop-k.k (omega arith)

pub loop-k-preserved : goal.loop-k-preserved
loop-k-preserved g c =
    let column = pivot_column c.args.l.now {n = length c.args.first.now} c.in-Some.ensures.some
    (omega (arith, c.requires.square, c.requires.rows)) (omega arith) in
    let took = c.eliminate_column_four.ensures in
    let was = c.loop-k in
    record {
      first = forward_step column was.invariant.first took.first was.auto.first;
      second = forward_step column was.invariant.second took.second
          (was.auto.second ∙ c.requires.rows_2);
      third = forward_step column was.invariant.third took.third
          (was.auto.third ∙ c.requires.rows_3);
      fourth = forward_step column was.invariant.fourth took.fourth
          (was.auto.fourth ∙ c.requires.rows_4);
    }

pub returns : goal.returns
returns g c =
    let was = c.loop-k.invariant in
    record {
      first = forward_end was.first (omega arith);
      second = rw c.requires.rows_2 (forward_end was.second (omega arith));
      third = rw c.requires.rows_3 (forward_end was.third (omega arith));
      fourth = rw c.requires.rows_4 (forward_end was.fourth (omega arith));
    }

-- ---- written by tools/answer-goals

pub loop-k-init : goal.loop-k-init
loop-k-init g c = grind (arith, common_steps)
