use Rattle.std.proofs.Common.{slice_range, length, ap, arith}
use Rattle.sparse_factor.proofs.Runs.{length-run}
use Rattle.sparse_factor.proofs.Alternatives.{in_second}
use Rattle.sparse_factor.proofs.Tails.{tail_list, tail_steps}
use Rattle.sparse_factor.proofs.factorization.columns.children.merge_tail_of.Goals as goal

pub returns-clause-rows : goal.returns-clause-rows
returns-clause-rows g c = λ i. in_second
    (rw (c.reserve.ensures.items, c.deref.ensures.value) at c.merge_tail.ensures.rows i)
    (tail_list c.tail_of-from.ensures i)

pub returns-clause-counted : goal.returns-clause-counted
returns-clause-counted g c =
    let (from, to) = c.tail_of-from.result in
    let tail = c.tail_of-from.ensures in
    tail_steps tail (omega (
      arith,
      c.merge_tail.ensures.counted,
      ap (λ l. length (slice_range l from to)) c.deref.ensures.value,
      length-run tail.run,
      tail.run.ordered,
    ))
