use Rattle.std.proofs.Common.{arith}
use Rattle.sparse_factor.proofs.FactorLaws.{upper_is, entries_at_ok, lists_same}
use Rattle.sparse_factor.proofs.TransposedCounts.{transposed_count}
use Rattle.sparse_factor.proofs.factorization.fill_of_upper.Goals as goal

pub returns-clause-entries : goal.returns-clause-entries
returns-clause-entries c =
    entries_at_ok (upper_is c.in_ok-mirrored.ensures.transposed) c.fill_below.result
    c.fill_below.ensures.entries

pub returns-clause-all_read : goal.returns-clause-all_read
returns-clause-all_read c =
    let mirrored = c.in_ok-mirrored.ensures in
    rw (transposed_count c.major_offsets.ensures.valid mirrored.valid mirrored.transposed)
    at c.fill_below.ensures.all_read

pub returns-clause-no_more : goal.returns-clause-no_more
returns-clause-no_more c = λ fill all.
    let mirrored = c.in_ok-mirrored.ensures in
    omega (
      arith,
      c.fill_below.ensures.no_more fill (lists_same (upper_is mirrored.transposed) fill all),
      transposed_count c.major_offsets.ensures.valid mirrored.valid mirrored.transposed,
    )
