use Rattle.sparse_permutation.proofs.DenseRows.{plain_of_permuted_rows}
use Rattle.sparse_permutation.proofs.laws.dense_rows_law.Goals as goal

pub returns : goal.returns
returns g c = λ p a d order rows full moved. plain_of_permuted_rows g.T.Ring.ring g.T.Ring.value
    g.T.Zero.zero_value order a d rows full moved
