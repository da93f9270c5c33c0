use Rattle.sparse_dense_ops.proofs.solve.substitution.solve_one.Goals as goal

pub solve_forward-requires-clause-pivots : goal.solve_forward-requires-clause-pivots
solve_forward-requires-clause-pivots g c = rw c.in-NoOp.is at c.requires.pivots

pub solve_backward-requires-clause-pivots : goal.solve_backward-requires-clause-pivots
solve_backward-requires-clause-pivots g c = rw c.in-Transpose.is at c.requires.pivots

pub returns-in-Transpose : goal.returns-in-Transpose
returns-in-Transpose g c = rw c.in-Transpose.is c.solve_backward.ensures
