use Rattle.std.specs.Int.{w32, w64}
use Rattle.sparse_algebra.specs.Numbers.{w32_number, w64_number}
use Rattle.sparse_algebra.proofs.WholeNumbers.{triplets_show, sum_shows, difference_shows}
use Rattle.sparse_algebra.proofs.WholeNumbers.{scaled_shows, product_shows}
use Rattle.sparse_algebra.proofs.laws.whole.whole_entry_law.Goals as goal

pub returns-clause-w32_triplets : goal.returns-clause-w32_triplets
returns-clause-w32_triplets c = λ rows cols ts. triplets_show w32 w32_number rows cols ts
    (λ x. x.in_range)

pub returns-clause-w64_triplets : goal.returns-clause-w64_triplets
returns-clause-w64_triplets c = λ rows cols ts. triplets_show w64 w64_number rows cols ts
    (λ x. x.in_range)

pub returns-clause-sum : goal.returns-clause-sum
returns-clause-sum c = sum_shows

pub returns-clause-difference : goal.returns-clause-difference
returns-clause-difference c = difference_shows

pub returns-clause-scaled : goal.returns-clause-scaled
returns-clause-scaled c = λ w s a. scaled_shows w a s

pub returns-clause-product : goal.returns-clause-product
returns-clause-product c = product_shows
