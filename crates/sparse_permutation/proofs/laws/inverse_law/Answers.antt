use Rattle.sparse_permutation.proofs.PermutedPlain.{rows_undone, undone}
use Rattle.sparse_permutation.proofs.DenseRows.{dense_undone}
use Rattle.sparse_permutation.proofs.laws.inverse_law.Goals as goal

pub returns-clause-rows : goal.returns-clause-rows
returns-clause-rows g c = λ p q a inverse order rows proper within.
    rows_undone g.T.Ring.ring inverse order a rows proper within

pub returns-clause-rows_and_cols : goal.returns-clause-rows_and_cols
returns-clause-rows_and_cols g c = λ p q a inverse order rows square proper within.
    undone g.T.Ring.ring inverse order a rows proper within square

pub returns-clause-dense_rows : goal.returns-clause-dense_rows
returns-clause-dense_rows g c = λ p q a d e inverse order rows first second.
    dense_undone inverse order a d e rows first second
