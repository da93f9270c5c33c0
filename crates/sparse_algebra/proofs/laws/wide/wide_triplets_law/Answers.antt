use Rattle.std.specs.Int.{w128}
use Rattle.sparse_algebra.proofs.WholeNumbers.{wrapped-triplets, triplets_show}
use Rattle.sparse_algebra.specs.WrappingValues.{w128_number}
use Rattle.sparse_algebra.proofs.laws.wide.wide_triplets_law.Goals as goal

pub returns-clause-wrapped : goal.returns-clause-wrapped
returns-clause-wrapped c = λ rows cols ts. wrapped-triplets w128 w128_number rows cols ts
    (λ x. x.in_range)

pub returns-clause-shown : goal.returns-clause-shown
returns-clause-shown c = λ rows cols ts. triplets_show w128 w128_number rows cols ts
    (λ x. x.in_range)
