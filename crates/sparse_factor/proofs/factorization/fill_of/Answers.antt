use Rattle.sparse_factor.proofs.FactorLaws.{lower_is, both_is, entries_at_ok}
use Rattle.sparse_factor.proofs.factorization.fill_of.Goals as goal

pub returns-in-Upper-clause-entries : goal.returns-in-Upper-clause-entries
returns-in-Upper-clause-entries c = rw c.in-Upper.is c.fill_of_upper.ensures.entries

pub returns-in-Lower-clause-entries : goal.returns-in-Lower-clause-entries
returns-in-Lower-clause-entries c =
    let below = c.fill_below in
    rw c.in-Lower.is
    (entries_at_ok (lower_is c.args.pattern.now) below.result below.ensures.entries)

pub returns-in_ok-both-in-Both-clause-entries : goal.returns-in_ok-both-in-Both-clause-entries
returns-in_ok-both-in-Both-clause-entries c =
    let below = c.fill_below-in-Both in
    let both = c.in_ok-both-in-Both in
    let same = both_is both.both c.in_ok-transpose-in-Both.ensures.transposed both.ensures.entries in
    rw c.in-Both.is (entries_at_ok same below.result below.ensures.entries)
