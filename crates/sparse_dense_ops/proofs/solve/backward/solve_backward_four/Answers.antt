use Rattle.std.proofs.Common.{◌≡◌, ℕ, ◌*◌, ◌<◌, All, length, arith}
use Rattle.sparse_dense_ops.proofs.ColumnSteps.{pivot_column}
use Rattle.sparse_dense_ops.proofs.Substitutions.{backward_end, backward_start, backward_step}
use Rattle.sparse_dense_ops.proofs.solve.backward.solve_backward_four.Goals as goal

pub loop-step-init : goal.loop-step-init
loop-step-init g c = record {
  first = backward_start (omega arith);
  second = backward_start (omega arith);
  third = backward_start (omega arith);
  fourth = backward_start (omega arith);
}

pub dot_four-a-requires : goal.dot_four-a-requires
dot_four-a-requires g c =
    let was = c.loop-step in
    let need = c.requires in
    let some = c.in-Some.ensures.some in
    let inside : (n : ℕ) → n ≡ c.args.l.now.pattern.minor_dim
    → All (λ k. k * 1 < n) c.in-Some.column.rows.now = λ n long q d lt.
    omega (arith, some.inside q d lt, long) in
    record {
      fits = some.count;
      first = inside (length was.first) (omega (arith, was.auto.first, need.rows, need.square));
      second = inside (length was.second)
          (omega (arith, was.auto.second, need.rows_2, need.rows, need.square));
      third = inside (length was.third)
          (omega (arith, was.auto.third, need.rows_3, need.rows, need.square));
      fourth = inside (length was.fourth)
          (omega (arith, was.auto.fourth, need.rows_4, need.rows, need.square));
    }

pub loop-step-preserved : goal.loop-step-preserved
loop-step-preserved g c =
    let column = pivot_column c.args.l.now {n = length c.args.first.now} c.in-Some.ensures.some
    (omega (arith, c.requires.square, c.requires.rows)) (omega arith) in
    let was = c.loop-step.invariant in
    let dots = c.dot_four-a.ensures in
    record {
      first = backward_step column was.first c.solve_row.ensures dots.first
          (omega arith) (omega arith);
      second = backward_step column was.second c.solve_row-in-loop-step.ensures dots.second
          (omega arith) (omega arith);
      third = backward_step column was.third c.solve_row-in-loop-step-2.ensures dots.third
          (omega arith) (omega arith);
      fourth = backward_step column was.fourth c.solve_row-in-loop-step-3.ensures dots.fourth
          (omega arith) (omega arith);
    }

pub returns : goal.returns
returns g c =
    let was = c.loop-step.invariant in
    record {
      first = backward_end was.first (omega arith);
      second = rw c.requires.rows_2 (backward_end was.second (omega arith));
      third = rw c.requires.rows_3 (backward_end was.third (omega arith));
      fourth = rw c.requires.rows_4 (backward_end was.fourth (omega arith));
    }
