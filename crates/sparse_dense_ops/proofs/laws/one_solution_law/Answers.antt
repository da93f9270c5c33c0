use Rattle.sparse_dense_ops.proofs.UniqueSolutions.{one_solution, one_transposed_solution}
use Rattle.sparse_dense_ops.proofs.laws.one_solution_law.Goals as goal

pub returns-clause-lower : goal.returns-clause-lower
returns-clause-lower g c = λ a x y b proper square inverse. one_solution g.T.Ring.ring a proper
    square inverse x y b b.cols

pub returns-clause-transposed : goal.returns-clause-transposed
returns-clause-transposed g c = λ a x y b proper square inverse. one_transposed_solution
    g.T.Ring.ring a proper square inverse x y b b.cols
