use Rattle.sparse_permutation.proofs.PermutedPlain.{rows_composed, permuted_composed}
use Rattle.sparse_permutation.proofs.laws.composition_law.Goals as goal

pub returns-clause-rows : goal.returns-clause-rows
returns-clause-rows g c = λ p q a first next same rows.
    rows_composed g.T.Ring.ring first next same a rows

pub returns-clause-rows_and_cols : goal.returns-clause-rows_and_cols
returns-clause-rows_and_cols g c = λ p q a first next same rows square.
    permuted_composed g.T.Ring.ring first next same a rows square
