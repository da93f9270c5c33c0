use Rattle.std.proofs.Common.{◌-◌, ◌≤◌}
use Rattle.sparse_dense_ops.specs.InnerBlocks.{AreChangedBelow}
use Rattle.sparse_dense_ops.specs.InnerColumns.{SolvesAt, op_lower}
use Rattle.sparse_dense_ops.proofs.solve.substitution.solve_blocks.Given as goal

abbrev pub invariant-loop-j : goal.invariant-loop-j
invariant-loop-j g l =
    let R = g.T.Ring.ring in
    let f = g.T.Ring.value in
    record {
      within : l.j ≤ l.ncols;
      done : AreChangedBelow l.nrows l.j (SolvesAt R f g.T.Zero.zero_value
          (op_lower R f (λ m. m.now) l.l)) l.initial.x l.x;
    }

abbrev pub decreases-loop-j : goal.decreases-loop-j
decreases-loop-j g l = l.ncols - l.j
