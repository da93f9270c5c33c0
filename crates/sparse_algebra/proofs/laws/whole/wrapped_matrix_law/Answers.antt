use Rattle.std.specs.Int.{w32, w64}
use Rattle.sparse_algebra.specs.Numbers.{w32_number, w64_number}
use Rattle.sparse_algebra.proofs.WholeNumbers.{wrapped-sum, wrapped-negation, wrapped-difference}
use Rattle.sparse_algebra.proofs.WholeNumbers.{wrapped-scaled, wrapped-product, wrapped-triplets}
use Rattle.sparse_algebra.proofs.laws.whole.wrapped_matrix_law.Goals as goal

pub returns-clause-w32_triplets : goal.returns-clause-w32_triplets
returns-clause-w32_triplets c = λ rows cols ts. wrapped-triplets w32 w32_number rows cols ts
    (λ x. x.in_range)

pub returns-clause-w64_triplets : goal.returns-clause-w64_triplets
returns-clause-w64_triplets c = λ rows cols ts. wrapped-triplets w64 w64_number rows cols ts
    (λ x. x.in_range)

pub returns-clause-sum : goal.returns-clause-sum
returns-clause-sum c = wrapped-sum

pub returns-clause-negation : goal.returns-clause-negation
returns-clause-negation c = wrapped-negation

pub returns-clause-difference : goal.returns-clause-difference
returns-clause-difference c = wrapped-difference

pub returns-clause-scaled : goal.returns-clause-scaled
returns-clause-scaled c = wrapped-scaled

pub returns-clause-product : goal.returns-clause-product
returns-clause-product c = wrapped-product
