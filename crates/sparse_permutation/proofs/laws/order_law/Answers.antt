use Rattle.sparse_permutation.proofs.Orders.{order_occurs, order_once}
use Rattle.sparse_permutation.proofs.laws.order_law.Goals as goal

pub returns-clause-occurs : goal.returns-clause-occurs
returns-clause-occurs c = λ p order. order_occurs order

pub returns-clause-once : goal.returns-clause-once
returns-clause-once c = λ p order. order_once order
