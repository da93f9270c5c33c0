use Rattle.std.proofs.lemmas.Grind.{common_steps}
use Rattle.std.proofs.Common.{refl, true, arith}
use Rattle.std.proofs.iter.runs.Made.{run, to_end}
use Rattle.sparse_coo_dense.proofs.coo.from_iter.split_triplets.Goals as goal

pub returns : goal.returns
returns g c =
    let kept = c.loop-row.invariant in
    let ended = to_end g.I.Iterator.next_gives _ c.loop-row.yielded
    (_, (_, c.loop-row.yielded_by, c.in-None.ensures.steps)) in (
      run g.I.Iterator.next_gives _ c.loop-row.yielded true ended,
      c.into_iter-row-iterator.ensures.into_iter_gives,
      refl,
      (kept.rows, kept.cols, kept.values),
    )

-- ---- written by tools/answer-goals

pub loop-row-preserved : goal.loop-row-preserved
loop-row-preserved g c = grind (arith, common_steps)
