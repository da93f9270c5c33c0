use Rattle.sparse_permutation.proofs.Orders.{inverse_back, one_inverse}
use Rattle.sparse_permutation.proofs.laws.one_inverse_law.Goals as goal

pub returns-clause-back : goal.returns-clause-back
returns-clause-back c = inverse_back

pub returns-clause-one : goal.returns-clause-one
returns-clause-one c = one_inverse
