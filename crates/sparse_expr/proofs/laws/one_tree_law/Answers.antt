use Rattle.sparse_expr.proofs.Trees.{one_tree, not_refused}
use Rattle.sparse_expr.proofs.laws.one_tree_law.Goals as goal

pub returns-clause-same : goal.returns-clause-same
returns-clause-same c = one_tree

pub returns-clause-no_refusal : goal.returns-clause-no_refusal
returns-clause-no_refusal c = λ words a e said. not_refused words a said e
